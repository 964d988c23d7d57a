-- A number that has an opcode is its place, and the directives follow. Assumes nothing.
use native.Mathlib.Omega.{arith}
use mathlib.Core.Path.{sym, ap, ◌∙◌}
use Rattle.isa.proofs.FirstWords.{found-known, found-unknown}
use Rattle.names.specs.declared.Word.TheVariants.{Instructs}
use Rattle.names.proofs.Places.{word-opcode, word_directive}
use Rattle.names.proofs.lookup.word_at.Goals as goal

pub overflow_sub-place : goal.overflow_sub-place
overflow_sub-place c =
    let none = found-unknown c.args.place (sym c.opcode.ensures ∙ c.in-None.is) in
    omega arith

pub returns-in-Some : goal.returns-in-Some
returns-in-Some c =
    let found = found-known c.args.place _ (sym c.opcode.ensures ∙ c.in-Some.is) in
    sym (word-opcode c.args.place found.0 ∙ ap Instructs found.1)

pub returns-in-None : goal.returns-in-None
returns-in-None c =
    let none = found-unknown c.args.place (sym c.opcode.ensures ∙ c.in-None.is) in
    c.directive.ensures ∙ sym (word_directive c.args.place none)
