-- The digits end where their run ends, and a word ends there when the run of its bytes from there on is empty.
use mathlib.Core.Path.{sym, ◌∙◌}
use native.Mathlib.Omega.{arith}
use lib.ListN.{drop, length-drop}
use Rattle.numerals.proofs.Radixes.{base-small}
use Rattle.numerals.proofs.Runs.{run_le}
use Rattle.numerals.proofs.Readers.{digits-none, digits-joined, digits-found}
use Rattle.numerals.proofs.reading.digits_at.Goals as goal

pub returns-then-end-from : goal.returns-then-end-from
returns-then-end-from c =
    let a = c.args in
    sym (digits-none a.negative a.k a.s.now a.from c.base_of-radix.ensures c.run_end-end.ensures c.if-end-from.true)

pub returns-then-run_end-end : goal.returns-then-run_end-end
returns-then-run_end-end c =
    let a = c.args in
    sym
    (digits-joined a.negative a.k a.s.now a.from
    c.base_of-radix.ensures
    c.run_end-end.ensures
    (λ e. c.if-run_end-end.true (c.run_end.ensures ∙ e)))

pub worth_of-magnitude-requires : goal.worth_of-magnitude-requires
worth_of-magnitude-requires c =
    let a = c.args in
    let r = run_le c.base_of-radix.result (drop a.from a.s.now) in
    omega (arith, base-small a.k, r, length-drop a.from a.s.now)

pub returns : goal.returns
returns c =
    let a = c.args in
    sym
    (digits-found a.negative a.k a.s.now a.from
    c.base_of-radix.ensures
    c.run_end-end.ensures
    c.if-end-from.false
    (sym c.run_end.ensures ∙ c.if-run_end-end.false)
    c.worth_of-magnitude.ensures)
