-- A line is the part of what is left of the input up to its end.
use mathlib.Core.Path.{sym}
use native.Mathlib.Omega.{arith}
use Prim.Native.Nat.{◌-◌}
use lib.ListN.{length, take, drop, length-drop}
use lib.Seq.{take_all, length-take-le}
use Rattle.numerals.specs.Bytes.{LF}
use Rattle.ports.proofs.Searches.{up_to-within, up_to-take}
use Rattle.ports.proofs.input.line_at.Goals as goal

pub slice_bounds-result-end : goal.slice_bounds-result-end
slice_bounds-result-end c =
    let a = c.args in
    let rest = take (length a.input.now - a.at) (drop a.at a.input.now) in
    sym (length-take-le _ rest (omega (arith, c.line_length.ensures, up_to-within LF rest)))

pub returns : goal.returns
returns c =
    let a = c.args in
    let rest = take_all (length a.input.now - a.at) (drop a.at a.input.now) (omega (arith, length-drop a.at a.input.now)) in
    rw (c.line_length.ensures, rest) (up_to-take LF (drop a.at a.input.now))
