-- What a listing is worth (02, K1 and K2), over the promises of `list` and `assemble` alone: it comes back, it always can be given, it settles.
use Prim.Native.Nat.{ℕ, ◌<◌}
use mathlib.Core.List.{List}
use mathlib.Core.Logic.{◌⊎◌, inl, inr}
use mathlib.Core.Path.{◌≡◌, refl, sym, ap, subst}
use native.Mathlib.Omega.{arith}
use lib.ListN.{length, get_or}
use Rattle.codes.specs.Marks.{free, code_mark, data_mark, reserved_mark}
use Rattle.sources.specs.Image.{Accepted, cells_marked}
use Rattle.sources.proofs.Top as sources
use Rattle.assembler.specs.Promise as assembler
use Rattle.assembler.specs.declared.Reply.{Reply}
use Rattle.listing.specs.Listing.{Leaves, refused, given, Replies}
use Rattle.listing.proofs.Cleared.{cleared}
use Rattle.recovered.proofs.Placed.{HoldZero}
use Rattle.recovered.proofs.Back as Back
use Rattle.recovered.proofs.Examples.{printed, printed_map, printed_text, room, reserved, reserved_map, reserved_text}
use Rattle.recovered.proofs.Examples.{unclean, unclean_map, unclean_text, written, written_map, written_text}
use Rattle.recovered.proofs.Examples as Examples

-- `list` gives this text
abbrev pub Gives : List ℕ → List ℕ → List ℕ → List ℕ → Type 0
Gives memory marks room text = Replies memory marks room (given text room)

-- a memory of 16-bit cells
abbrev pub Cells : List ℕ → Type 0
Cells memory = (a : ℕ) → get_or memory a 0 < 65536

-- "provided that free cells hold 0" (K1); "its promise also wants reserved cells to hold 0" (K2)
pub record Proviso (memory marks : List ℕ) : Type 0 where
  pub free-zero : HoldZero memory marks free
  pub reserved-zero : HoldZero memory marks reserved_mark

-- "at the same M": memory and map are lent in the lengths of these, whatever they hold
pub record SameLengths (memory marks memory₀ map₀ : List ℕ) : Type 0 where
  pub memory-length : length memory₀ ≡ length memory
  pub map-length : length map₀ ≡ length marks

-- a reply of `assemble` with what it left: it accepts, and gives this memory and map with the counts of their cells
pub record GaveBack (memory marks : List ℕ) (r : Reply) (memory' map' : List ℕ) : Type 0 where
  pub accepted : r.refusal ≡ 0
  pub no_line : r.line.0 ≡ 0
  pub no_column : r.column.0 ≡ 0
  pub no_place : r.place ≡ 0
  pub same_memory : memory' ≡ memory
  pub same_map : map' ≡ marks
  pub code-cells : r.code ≡ cells_marked code_mark marks
  pub data_cells : r.data ≡ cells_marked data_mark marks
  pub reserved-cells : r.reserved ≡ cells_marked reserved_mark marks

-- what acceptance replies
abbrev accepting : List ℕ → Reply
accepting marks =
    record {
      refusal = 0;
      line = record { 0 = 0 };
      column = record { 0 = 0 };
      place = 0;
      code = cells_marked code_mark marks;
      «data» = cells_marked data_mark marks;
      reserved = cells_marked reserved_mark marks;
    }

gave_back : {source memory marks memory₀ map₀ memory' map' : List ℕ} {r : Reply} → Accepted (length memory₀) (length map₀) source memory marks
    → assembler.Replies source memory₀ map₀ r memory' map'
    → GaveBack memory marks r memory' map'
gave_back {marks = marks} {r = r} a h =
    let u = Back.replied {r = accepting marks} a refl h in
    record {
      accepted = ap (λ (x : Reply). x.refusal) u.0;
      no_line = ap (λ (x : Reply). x.line.0) u.0;
      no_column = ap (λ (x : Reply). x.column.0) u.0;
      no_place = ap (λ (x : Reply). x.place) u.0;
      same_memory = u.1;
      same_map = u.2;
      code-cells = ap (λ (x : Reply). x.code) u.0;
      data_cells = ap (λ (x : Reply). x.data) u.0;
      reserved-cells = ap (λ (x : Reply). x.reserved) u.0;
    }

-- ---- it comes back

module _ {memory marks room text : List ℕ} (listing : Gives memory marks room text) (cells : Cells memory) where
  -- "Where a listing is given, assembling it at the same M must give the same memory and map, provided that free cells hold 0", and reserved
  -- cells too: by the rules of writing it is accepted, with this memory and this map;
  pub comes_back : Proviso memory marks → Accepted (length memory) (length marks) text memory marks
  comes_back proviso = Back.back listing cells proviso.free-zero proviso.reserved-zero

  -- and so every reply of `assemble` that meets its promise gives them back, whatever memory and map held.
  pub assembles_back : Proviso memory marks → {memory₀ map₀ memory' map' : List ℕ} {r : Reply} → SameLengths memory marks memory₀ map₀
      → assembler.Replies text memory₀ map₀ r memory' map'
      → GaveBack memory marks r memory' map'
  assembles_back proviso s h = gave_back (Back.lent s.memory-length s.map-length (comes_back proviso)) h

  -- Without the proviso it gives the memory that has 0 in the free and reserved cells.
  pub comes_back_cleared : Accepted (length memory) (length marks) text (cleared memory marks) marks
  comes_back_cleared = Back.cleared-back listing cells

  -- ---- it settles: the listing of what a listing assembles to is that listing

  pub settles : {m k : List ℕ} → Accepted (length memory) (length marks) text m k → Gives m k room text
  settles = Back.settled listing cells

  pub assembled-settles : {memory₀ map₀ m k : List ℕ} {r : Reply} → SameLengths memory marks memory₀ map₀ → assembler.Replies text memory₀ map₀ r m k
      → Gives m k room text
  assembled-settles {m = m} {k} s h =
      let b = gave_back (Back.lent s.memory-length s.map-length comes_back_cleared) h in
      subst (λ (x : List ℕ). Gives x k room text) (sym b.same_memory)
      (subst (λ (x : List ℕ). Gives (cleared memory marks) x room text) (sym b.same_map) (Back.unseen listing))

-- ---- it always can be given

module _ {M N : ℕ} {source memory marks : List ℕ} (image : Accepted M N source memory marks) where
  -- What an accepted source left is listed, or its text is too long: no other refusal.
  pub only_too_long : {room : List ℕ} {l : Leaves} → Replies memory marks room l
      → ((text : List ℕ) × (l ≡ given text room)) ⊎ (l ≡ refused 3 0 room)
  only_too_long h = Back.given_or_long image h

  number_of : {room : List ℕ} {l : Leaves} → Replies memory marks room l → (l.refusal ≡ 0) ⊎ (l.refusal ≡ 3)
  number_of h =
      elim (only_too_long h) [ inl x ↦ inl (ap (λ (y : Leaves). y.refusal) x.1) | inr e ↦ inr (ap (λ (y : Leaves). y.refusal) e) ]

  -- Its code runs decode within themselves: never 2;
  pub always_can : {room : List ℕ} {l : Leaves} → Replies memory marks room l → l.refusal ≡ 2 → ⊥
  always_can h e = elim (number_of h) [ inl z ↦ omega arith | inr z ↦ omega arith ]

  -- and it is lent right: never 1.
  pub lent-right : {room : List ℕ} {l : Leaves} → Replies memory marks room l → l.refusal ≡ 1 → ⊥
  lent-right h e = elim (number_of h) [ inl z ↦ omega arith | inr z ↦ omega arith ]

  -- ---- a filed image comes back, with no proviso

  -- Its cells are below 65,536, and its free and reserved cells hold 0.
  pub filed_cells : Cells memory
  filed_cells = sources.cells-small M N source image

  pub filed_zeros : Proviso memory marks
  filed_zeros = record { free-zero = sources.free_hold_zero M N source image; reserved-zero = sources.reserved_hold_zero M N source image }

  pub filed_comes_back : {room text : List ℕ} → Gives memory marks room text → Accepted (length memory) (length marks) text memory marks
  filed_comes_back h = comes_back h filed_cells filed_zeros

-- The same counts: a source is assembled, its image listed, the listing assembled at the same M: the same memory and map, and the same reply.
pub same-reply : {source text memory marks memory₀ map₀ memory₁ map₁ memory' map' room : List ℕ} {r r' : Reply}
    → assembler.Replies source memory₀ map₀ r memory marks
    → r.refusal ≡ 0
    → Gives memory marks room text
    → SameLengths memory marks memory₁ map₁
    → assembler.Replies text memory₁ map₁ r' memory' map'
    → (r' ≡ r) × (memory' ≡ memory) × (map' ≡ marks)
same-reply h z g s h' =
    let a = Back.acceptance_of h z in
    Back.replied (Back.lent s.memory-length s.map-length (filed_comes_back a.0 g)) a.1 h'

-- ---- worked

-- Document 01's image gives its listing, and that comes back.
pub printed_comes_back : Gives printed printed_map room printed_text × Accepted 16 16 printed_text printed printed_map
printed_comes_back = (Examples.printed-gives, Examples.printed-back)

-- Two reserved cells are `RES 2`, and that comes back.
pub reserved_comes_back : Gives reserved reserved_map room reserved_text × Accepted 2 2 reserved_text reserved reserved_map
reserved_comes_back = (Examples.reserved-gives, Examples.reserved-back)

-- The proviso is not idle: `64,9` with marks `1,0` is listed, and does not come back;
pub unclean_stays_away : Gives unclean unclean_map room unclean_text × (Accepted 2 2 unclean_text unclean unclean_map → ⊥)
unclean_stays_away = (Examples.unclean-gives, Examples.unclean_stays_away)

-- and a reserved cell that holds 7 is listed as `RES 1`, and does not come back.
pub written_stays_away : Gives written written_map room written_text × (Accepted 1 1 written_text written written_map → ⊥)
written_stays_away = (Examples.written-gives, Examples.written_stays_away)
