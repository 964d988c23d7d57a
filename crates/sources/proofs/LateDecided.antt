-- The verdicts on the loans, on the source's end and on labels in operands tell their checks.
use Prim.Native.Nat.{ℕ}
use mathlib.Core.Bool.{not, ◌||◌}
use mathlib.Core.List.{List, [], ◌∷◌, ◌++◌}
use lib.Dec.{eqb, ltb}
use lib.ListN.{length}
use Rattle.statements.specs.FirstFailing.{Pass}
use Rattle.codes.specs.Limits.{most_cells, longest_source}
use Rattle.sources.specs.Placing.{Bound, Place, bindings}
use Rattle.sources.specs.Uses.{value_of, Use}
use Rattle.sources.specs.Order.{◌on◌, loan_checks, end_checks, use_checks}
use Rattle.sources.specs.Inner.Assembling.{loan_verdict, Work, end_verdict, use_verdict, uses_verdict, late_verdict}
use Rattle.sources.proofs.Tests.{lt_decides, eq_decides, or_decides, not_decides, waiting_decides, unknown_decides, far_decides}
use Rattle.sources.proofs.Verdicts.{Tells, tells_none, tells-test, tells-join}

pub loans_tell : (M N : ℕ) (source : List ℕ) → Tells (loan_verdict M N source) (loan_checks M N source)
unfolding loan_verdict loan_checks
loans_tell M N source =
    tells-test (1 on 0) _ _ _ _
    (or_decides (eqb M 0) (ltb most_cells M || not (eqb N M)) (eq_decides M 0)
    (or_decides (ltb most_cells M) (not (eqb N M)) (lt_decides most_cells M) (not_decides (eqb N M) (eq_decides N M))))
    (tells-test (2 on 0) _ _ _ _ (lt_decides longest_source (length source)) tells_none)

pub end-tells : (k : ℕ) (p : Place) → Tells (end_verdict k p) (end_checks k p)
unfolding end_verdict end_checks
end-tells k p = tells-test (6 on k) _ _ _ _ (waiting_decides p) tells_none

pub uses_tell : (bs : List Bound) (us : List Use) → Tells (uses_verdict bs us) (use_checks bs us)
unfolding uses_verdict use_verdict use_checks Pass
uses_tell bs [] = tt
uses_tell bs (u ∷ us) =
    tells-join (use_verdict bs u) (uses_verdict bs us) _ (use_checks bs us)
    (tells-test (13 on u.line) _ _ _ _ (unknown_decides (value_of bs u.name))
    (tells-test (14 on u.line) _ _ _ _ (far_decides u.counted (value_of bs u.name)) tells_none)) (λ e. uses_tell bs us)

-- after the k-th line, the last
pub late-tells : (w : Work) (k : ℕ) → Tells (late_verdict w k) (end_checks k w.place ++ use_checks (bindings w.place) w.uses)
unfolding late_verdict
late-tells w k =
    tells-join (end_verdict k w.place) (uses_verdict (bindings w.place) w.uses) (end_checks k w.place)
    (use_checks (bindings w.place) w.uses) (end-tells k w.place) (λ e. uses_tell (bindings w.place) w.uses)
