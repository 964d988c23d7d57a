-- Why a listing comes back, always can be given, and settles: by its lines, and by the blocks of the source that left the image.
use Prim.Native.Nat.{ℕ, ◌<◌, ◌≤◌}
use mathlib.Core.Bool.{true, false, false≢true}
use mathlib.Core.List.{List}
use mathlib.Core.Logic.{◌⊎◌, inl, inr}
use mathlib.Core.Path.{◌≡◌, refl, sym, ap, subst, ◌∙◌}
use native.Mathlib.Omega.{arith}
use lib.ListN.{length, get_or}
use Rattle.codes.specs.Limits.{most_cells}
use Rattle.codes.specs.Marks.{free, reserved_mark, largest_mark}
use Rattle.image.proofs.Top as image
use Rattle.image.proofs.Top.{Loan}
use Rattle.statements.specs.FirstFailing.{Pass}
use Rattle.sources.specs.Placing.{place_of, bindings}
use Rattle.sources.specs.Order.{loan_checks}
use Rattle.sources.specs.Image.{Accepted, blocks}
use Rattle.sources.proofs.Filling.{all_read}
use Rattle.sources.proofs.Top as sources
use Rattle.assembler.specs.Promise.{told, acceptance, accepts, refuses}
use Rattle.assembler.specs.Promise as Promise
use Rattle.assembler.specs.declared.Reply.{Reply}
use Rattle.assembler.proofs.Top as assembler
use Rattle.listing.specs.Lines.{text_of_lines}
use Rattle.listing.specs.Listing.{Leaves, refused, given, Replies, bad-loan, undecoded, too_long, gives}
use Rattle.listing.proofs.Cleared.{cleared, cleared-length, cleared-cells, cleared-free, cleared-reserved}
use Rattle.listing.proofs.Cleared as Cleared
use Rattle.listing.proofs.Exactly.{exactly}
use Rattle.recovered.proofs.Placed.{HoldZero, good-accepted}
use Rattle.recovered.proofs.Listed.{lines-good, Lists, lists}
use Rattle.recovered.proofs.Always.{code-blocks, low-blocks, image-low, runs_decode}

-- ---- it comes back

module _ {memory marks room text : List ℕ} (listing : Replies memory marks room (given text room)) (cells : (a : ℕ) → get_or memory a 0 < 65536) where
  pub back : HoldZero memory marks free → HoldZero memory marks reserved_mark → Accepted (length memory) (length marks) text memory marks
  back free-zero reserved-zero =
      let x : Lists memory marks text = lists listing in
      let l : Loan memory marks = x.loan in
      let known : (a : ℕ) → a < length memory → get_or marks a free ≤ largest_mark = λ a h. l.known a (omega (arith, l.as_many)) in
      let g = lines-good memory marks cells l.not_too_many known reserved-zero x.has-runs x.has-lines in
      subst (λ (t : List ℕ). Accepted (length memory) (length marks) t memory marks) x.its-text
      (good-accepted free-zero l.as_many l.some l.not_too_many g x.short)

-- what is listed of a memory is listed of it with 0 in its free and reserved cells
pub unseen : {memory marks room : List ℕ} {l : Leaves} → Replies memory marks room l → Replies (cleared memory marks) marks room l
unseen {memory} {marks} {room} {l} h =
    (exactly (cleared memory marks) marks room l).0 (Cleared.unseen memory marks room ∙ (exactly memory marks room l).1 h)

module _ {memory marks room text : List ℕ} (listing : Replies memory marks room (given text room)) (cells : (a : ℕ) → get_or memory a 0 < 65536) where
  -- without the proviso: with 0 in those cells
  pub cleared-back : Accepted (length memory) (length marks) text (cleared memory marks) marks
  cleared-back =
      subst (λ (n : ℕ). Accepted n (length marks) text (cleared memory marks) marks) (cleared-length memory marks)
      (back (unseen listing) (λ a. cleared-cells memory marks a (cells a)) (cleared-free memory marks) (cleared-reserved memory marks))

  -- ---- it settles

  pub settled : {m k : List ℕ} → Accepted (length memory) (length marks) text m k → Replies m k room (given text room)
  settled {m} {k} a =
      let u = sources.one_image_only (length memory) (length marks) text cleared-back a in
      subst (λ (x : List ℕ). Replies x k room (given text room)) u.0
      (subst (λ (x : List ℕ). Replies (cleared memory marks) x room (given text room)) u.1 (unseen listing))

-- ---- through the assembler's promise

-- the same lengths lent
pub lent : {M N M' N' : ℕ} {text memory marks : List ℕ} → M' ≡ M → N' ≡ N → Accepted M N text memory marks → Accepted M' N' text memory marks
lent {M} {N' = N'} {text} {memory} {marks} p q a =
    subst (λ (n : ℕ). Accepted n N' text memory marks) (sym p) (subst (λ (n : ℕ). Accepted M n text memory marks) (sym q) a)

-- every reply to an accepted source is this one
pub replied : {source memory₀ map₀ memory marks : List ℕ} {r r' : Reply} {memory' map' : List ℕ}
    → Accepted (length memory₀) (length map₀) source memory marks → told r ≡ acceptance marks
    → Promise.Replies source memory₀ map₀ r' memory' map'
    → (r' ≡ r) × (memory' ≡ memory) × (map' ≡ marks)
replied a e h = assembler.one-reply h (accepts a e)

-- a reply of number 0 is acceptance
pub acceptance_of : {source memory₀ map₀ memory marks : List ℕ} {r : Reply} → Promise.Replies source memory₀ map₀ r memory marks → r.refusal ≡ 0
    → Accepted (length memory₀) (length map₀) source memory marks × (told r ≡ acceptance marks)
acceptance_of (accepts a e) z = (a, e)
acceptance_of {r = r} (refuses why c i f e g h) z =
    let q : r.refusal ≡ why.number = ap (λ (t : Promise.Told). t.number) e in
    absurd (omega (arith, (sources.refusal-numbered (sources.forget f)).0, q, z))

-- ---- it always can

module _ {M N : ℕ} {source memory marks : List ℕ} (a : Accepted M N source memory marks) where
  -- its lengths and marks are those of a good loan
  pub good-loan : Loan memory marks
  unfolding loan_checks Pass
  good-loan =
      let i = a.image in
      let p = a.passing.loans.0 in
      let z : M ≡ 0 → ⊥ = λ e. p (inl e) in
      let l : most_cells < M → ⊥ = λ e. p (inr (inl e)) in
      let m = i.memory-long in
      let k = i.map-long in
      record {
        some = omega (arith, z, m);
        not_too_many = omega (arith, l, m);
        as_many = k ∙ sym m;
        known = λ j h. image-low i (λ b t. low-blocks (bindings (place_of M a.reading)) a.reading 0 b t) j;
      }

  -- a listing is given, or is too long
  pub given_or_long : {room : List ℕ} {l : Leaves} → Replies memory marks room l → ((text : List ℕ) × (l ≡ given text room)) ⊎ (l ≡ refused 3 0 room)
  given_or_long (bad-loan n) = let e : false ≡ true = sym n ∙ (image.good-exactly memory marks).1 good-loan in absurd (false≢true e)
  given_or_long (undecoded g r b) =
      let bs = bindings (place_of M a.reading) in
      absurd
      (runs_decode M (blocks M a.reading) memory marks a.image (sources.no_cell_twice M N source a)
      (λ c m k. code-blocks bs a.reading (all_read a.passing.text.read) 0 c m k) r (λ c z. omega arith) b)
  given_or_long (too_long g r x t) = inr refl
  given_or_long (gives {es = es} g r x t u) = inl (text_of_lines es, refl)
