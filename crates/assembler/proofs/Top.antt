-- What `assemble` promises (demands 1, 2 and 3), restated from its promise `Replies` alone.
use Prim.Native.Nat.{ℕ}
use mathlib.Core.List.{List}
use mathlib.Core.Logic.{◌↔◌}
use mathlib.Core.Path.{◌≡◌, sym, ap, subst, ◌∙◌}
use native.Mathlib.Omega.{arith}
use lib.ListN.{length}
use Rattle.codes.specs.Marks.{code_mark, data_mark, reserved_mark}
use Rattle.sources.specs.Sources.{Said}
use Rattle.sources.specs.Order.{◌on◌, FirstFailing, Passing}
use Rattle.sources.specs.Pointing.{FailsAt}
use Rattle.sources.specs.Image.{Accepted, cells_marked}
use Rattle.sources.proofs.Top as sources
use Rattle.assembler.specs.Promise.{Told, told, acceptance, refusal, Replies, accepts, refuses}
use Rattle.assembler.specs.BeforeK4.{ToldBefore, forgotten, RepliesBefore}
use Rattle.assembler.specs.declared.Reply.{Reply}
use Rattle.assembler.proofs.BeforeK4 as BeforeK4

-- a reply's numbers are all of it
same-reply : (r s : Reply) → told r ≡ told s → r ≡ s
same-reply r s e = ap back e
  where
    back : Told → Reply
    back t =
        record {
          refusal = t.number;
          line = record { 0 = t.line };
          column = record { 0 = t.column };
          place = t.place;
          code = t.code-cells;
          «data» = t.data_cells;
          reserved = t.reserved-cells;
        }

module _ {source memory map : List ℕ} where
  -- ---- two replies that meet the promise coincide: the numbers, line and column, memory and map

  pub one-reply : {r r' : Reply} {m k m' k' : List ℕ} → Replies source memory map r m k → Replies source memory map r' m' k'
      → (r ≡ r') × (m ≡ m') × (k ≡ k')
  one-reply {r} {r'} (accepts a e) (accepts b f) =
      let u = sources.one_image_only (length memory) (length map) source a b in
      (same-reply r r' (e ∙ ap acceptance u.1 ∙ sym f), u.0, u.1)
  one-reply (accepts a e) (refuses why c i b f g h) = absurd (sources.never_both (length memory) (length map) source a (sources.forget b))
  one-reply (refuses why c i b f g h) (accepts a e) = absurd (sources.never_both (length memory) (length map) source a (sources.forget b))
  one-reply {r} {r'} (refuses why c i b f g h) (refuses why' c' i' b' f' g' h') =
      let u = sources.one_point (length memory) (length map) source b b' in
      let same : refusal why c i ≡ refusal why' c' i' = rw (u.0, u.1, u.2) in
      (same-reply r r' (f ∙ same ∙ sym f'), g ∙ sym g', h ∙ sym h')

  module _ {r : Reply} {memory' map' : List ℕ} (reply : Replies source memory map r memory' map') where
    -- a reply with number 0 accepts: every refusal has a number
    accepting : r.refusal ≡ 0 → Accepted (length memory) (length map) source memory' map' × (told r ≡ acceptance map')
    accepting z = out reply
      where
        out : Replies source memory map r memory' map' → Accepted (length memory) (length map) source memory' map' × (told r ≡ acceptance map')
        out (accepts a e) = (a, e)
        out (refuses why c i f e g h) =
            let n = sources.refusal-numbered (sources.forget f) in
            let q : r.refusal ≡ why.number = ap (λ (t : Told). t.number) e in
            absurd (omega (arith, n.0, q, z))

    -- ---- accepted exactly when the rules give the source a reading that passes every check

    -- The number is 0 exactly then,
    pub accepted-exactly : (r.refusal ≡ 0) ↔ ((xs : List Said) × Passing (length memory) (length map) source xs)
    accepted-exactly = (λ z. let a = (accepting z).0 in (a.reading, a.passing), λ h. back reply h.1)
      where
        back : Replies source memory map r memory' map' → {xs : List Said} → Passing (length memory) (length map) source xs → r.refusal ≡ 0
        back (accepts a e) p = ap (λ (t : Told). t.number) e
        back (refuses why c i f e g h) p = absurd (sources.passing-never (length memory) (length map) source p (sources.forget f))

    -- and then memory and map are the image that this reading defines.
    pub accepted-image : r.refusal ≡ 0 → Accepted (length memory) (length map) source memory' map'
    accepted-image z = (accepting z).0

    -- The counts are the numbers of cells marked 1, 2 and 3, which are those that the source's instructions, DATA and RES give.
    pub counts_marked : r.refusal ≡ 0
        → (r.code ≡ cells_marked code_mark map') × (r.data ≡ cells_marked data_mark map') × (r.reserved ≡ cells_marked reserved_mark map')
    counts_marked z =
        let e = (accepting z).1 in
        (ap (λ (t : Told). t.code-cells) e, ap (λ (t : Told). t.data_cells) e, ap (λ (t : Told). t.reserved-cells) e)

    -- ---- refused: the first check that fails, and nothing lent has changed

    -- Number, line, column and operand's place are those of the first check that fails;
    pub refused-first : (r.refusal ≡ 0 → ⊥)
        → FailsAt (length memory) (length map) source (r.refusal on r.line.0) r.column.0 r.place
    refused-first n = out reply
      where
        out : Replies source memory map r memory' map' → FailsAt (length memory) (length map) source (r.refusal on r.line.0) r.column.0 r.place
        out (accepts a e) = absurd (n (ap (λ (t : Told). t.number) e))
        out (refuses why c i f e g h) =
            subst (λ (t : Told). FailsAt (length memory) (length map) source (t.number on t.line) t.column t.place) (sym e) f

    -- number and line, without where it points.
    pub refused_on_line : (r.refusal ≡ 0 → ⊥) → FirstFailing (length memory) (length map) source (r.refusal on r.line.0)
    refused_on_line n = sources.forget (refused-first n)

    pub refused-keeps : (r.refusal ≡ 0 → ⊥) → (memory' ≡ memory) × (map' ≡ map) × (r.code ≡ 0) × (r.data ≡ 0) × (r.reserved ≡ 0)
    refused-keeps n = out reply
      where
        out : Replies source memory map r memory' map' → (memory' ≡ memory) × (map' ≡ map) × (r.code ≡ 0) × (r.data ≡ 0) × (r.reserved ≡ 0)
        out (accepts a e) = absurd (n (ap (λ (t : Told). t.number) e))
        out (refuses why c i f e g h) =
            (g, h, ap (λ (t : Told). t.code-cells) e, ap (λ (t : Told). t.data_cells) e, ap (λ (t : Told). t.reserved-cells) e)

    -- ---- "for a source 5 goes" (02, K4), and nothing else

    -- With 15 and 16 read as 5, and without where it points, every reply is that of before,
    pub as_it_was : RepliesBefore source memory map (forgotten (told r)) memory' map'
    as_it_was = BeforeK4.as_it_was reply

    -- and no other was.
    pub only_as_it_was : {t : ToldBefore} {m k : List ℕ} → RepliesBefore source memory map t m k → (t ≡ forgotten (told r)) × (m ≡ memory') × (k ≡ map')
    only_as_it_was old = BeforeK4.only_as_it_was old reply

-- An accepted image depends on source and M alone: what memory and map held plays no part.
pub source_and_M_alone : {source memory map memory₂ map₂ m k m₂ k₂ : List ℕ} {r r₂ : Reply} → Replies source memory map r m k
    → Replies source memory₂ map₂ r₂ m₂ k₂
    → length memory ≡ length memory₂
    → r.refusal ≡ 0
    → r₂.refusal ≡ 0
    → (m ≡ m₂) × (k ≡ k₂)
source_and_M_alone {source} {map₂ = map₂} {m₂ = m₂} {k₂ = k₂} p q e z z₂ =
    sources.source_and_M_alone (accepted-image p z) (subst (λ (n : ℕ). Accepted n (length map₂) source m₂ k₂) (sym e) (accepted-image q z₂))
