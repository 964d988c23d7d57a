-- The promise by the outcome: each way out of `assemble` gives a reply that the declared rules allow.
use Prim.Native.Nat.{ℕ, ◌≤◌, ◌<◌}
use mathlib.Core.List.{List}
use mathlib.Core.Logic.{◌⊎◌, inl, inr}
use mathlib.Core.Path.{◌≡◌, refl, sym, ap, subst, ◌∙◌}
use native.Mathlib.Omega.{arith}
use lib.ListN.{length}
use Rattle.codes.specs.Limits.{most_cells, longest_source}
use Rattle.statements.specs.FirstFailing.{Pass, First}
use Rattle.columns.specs.declared.Pointed.{Pointed}
use Rattle.sources.specs.Order.{◌on◌, loan_checks}
use Rattle.sources.specs.Pointing.{FailsAt, of_loans}
use Rattle.sources.specs.Image.{Accepted}
use Rattle.sources.specs.Inner.Assembling.{Verdict, passes, refused, loan_verdict, work_of, verdict_of, memory_of, assembled_by, assemble_of, source_verdict}
use Rattle.sources.specs.Inner.Pointing.{nowhere_then, source_point, point_of}
use Rattle.sources.proofs.Verdicts.{tells-pass}
use Rattle.sources.proofs.LateDecided.{loans_tell}
use Rattle.sources.proofs.Top as sources
use Rattle.assembler.specs.Promise.{told, acceptance, refusal, Replies, accepts}
use Rattle.assembler.specs.Promise as Promise
use Rattle.assembler.specs.Inner.Parts.{Outcome, outcome, outcome_by, outcome_of}
use Rattle.assembler.specs.declared.Reply.{Reply}

module _ (source memory map : List ℕ) (r : Reply) where
  abbrev M : ℕ
  M = length memory

  abbrev N : ℕ
  N = length map

  -- ---- 1, 2

  pub bad-loan : told r ≡ refusal (1 on 0) 0 0 → (M ≡ 0) ⊎ ((most_cells < M) ⊎ (N ≡ M → ⊥)) → Replies source memory map r memory map
  unfolding First loan_checks
  bad-loan e h = Promise.refuses (1 on 0) 0 0 (of_loans (inl (h, refl))) e refl refl

  pub too_long : told r ≡ refusal (2 on 0) 0 0 → (M ≡ 0 → ⊥) → M ≤ most_cells → N ≡ M → longest_source < length source → Replies source memory map r memory map
  unfolding First loan_checks
  too_long e a b c h = Promise.refuses (2 on 0) 0 0 (of_loans (inr (good, inl (h, refl)))) e refl refl
    where
      good : (M ≡ 0) ⊎ ((most_cells < M) ⊎ (N ≡ M → ⊥)) → ⊥
      good (inl x) = a x
      good (inr (inl x)) = omega (arith, x, b)
      good (inr (inr x)) = x c

  -- ---- what is lent is right

  loans-pass : (M ≡ 0 → ⊥) → M ≤ most_cells → N ≡ M → length source ≤ longest_source → Pass (loan_checks M N source)
  unfolding Pass loan_checks
  loans-pass a b c d = (good, (λ x. omega (arith, x, d), tt))
    where
      good : (M ≡ 0) ⊎ ((most_cells < M) ⊎ (N ≡ M → ⊥)) → ⊥
      good (inl x) = a x
      good (inr (inl x)) = omega (arith, x, b)
      good (inr (inr x)) = x c

  lent-right : Pass (loan_checks M N source) → loan_verdict M N source ≡ passes
  lent-right h = tells-pass _ _ (loans_tell M N source) h

  verdict_is : Pass (loan_checks M N source) → verdict_of M N source ≡ source_verdict M source
  unfolding verdict_of
  verdict_is h = let e = lent-right h in rw e

  point_is : Pass (loan_checks M N source) → point_of M N source ≡ source_point M source
  unfolding point_of
  point_is h = ap (λ (v : Verdict). nowhere_then v (source_point M source)) (lent-right h)

  answer_by : {v : Verdict} → verdict_of M N source ≡ v
      → assemble_of M N source ≡ assembled_by v (memory_of (work_of M source)) (work_of M source).place.marks
  unfolding assemble_of
  answer_by e = ap (λ (v : Verdict). assembled_by v (memory_of (work_of M source)) (work_of M source).place.marks) e

  module _ (memory' map' : List ℕ) where
    by_outcome : (v : Verdict) (p : Pointed) → verdict_of M N source ≡ v → point_of M N source ≡ p
        → outcome r memory' map' ≡ outcome_by v p (memory_of (work_of M source)) (work_of M source).place.marks memory map
        → Replies source memory map r memory' map'
    by_outcome passes at e f o =
        let p : memory_of (work_of M source) ≡ memory' = sym (ap (λ (x : Outcome). x.memory) o) in
        let q : (work_of M source).place.marks ≡ map' = sym (ap (λ (x : Outcome). x.map) o) in
        let a = (sources.accepted-exactly M N source (memory_of (work_of M source)) (work_of M source).place.marks).0 (answer_by e) in
        accepts (subst (λ (k : List ℕ). Accepted M N source memory' k) q (subst (λ (m : List ℕ). Accepted M N source m (work_of M source).place.marks) p a))
        (ap (λ (x : Outcome). x.reply) o ∙ ap acceptance q)
    by_outcome (refused why) at e f o =
        let first = sources.fails_at M N source ((sources.refused-exactly M N source why).0 (answer_by e)) in
        Promise.refuses why at.column.0 at.place (subst (λ (p : Pointed). FailsAt M N source why p.column.0 p.place) f first)
        (ap (λ (x : Outcome). x.reply) o)
        (ap (λ (x : Outcome). x.memory) o)
        (ap (λ (x : Outcome). x.map) o)

    pub replies : (M ≡ 0 → ⊥) → M ≤ most_cells → N ≡ M → length source ≤ longest_source
        → outcome r memory' map' ≡ outcome_of M source memory map
        → Replies source memory map r memory' map'
    replies a b c d o =
        let h = loans-pass a b c d in
        by_outcome (source_verdict M source) (source_point M source) (verdict_is h) (point_is h) o
