-- What `is_allowed` refuses is refused; else the first word is put together from number and modes, which are small. Assumes nothing.
use mathlib.Core.Path.{sym, ap, ◌∙◌}
use Prim.Native.Nat.{ℕ, ◌+◌, ◌*◌}
use native.Mathlib.Omega.{arith}
use Rattle.isa.specs.declared.Row.{Row}
use Rattle.isa.specs.Encoding.{first_word_of, answered}
use Rattle.isa.proofs.Words.{encoded}
use Rattle.isa.proofs.encoding.encode.Goals as goal

abbrev number : Row → ℕ
number r = r.number

pub returns : goal.returns
unfolding first_word_of
returns c =
    let asked = c.is_allowed in
    let row = c.row-its in
    let first = c.mode in
    let second = c.mode-2 in
    let its-words =
    encoded c.args.i (row.result.number * 64 + first.result * 8 + second.result)
    (sym asked.ensures ∙ c.if-not-is_allowed.false)
    (omega (arith, ap number row.ensures, first.ensures, second.ensures)) in
    ap answered c.laid_out.ensures ∙ its-words
