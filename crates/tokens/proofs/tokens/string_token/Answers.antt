-- The loop keeps where the string closes: counted from the opening quote, and counted on from the cursor, it is the same place (Quoted.antt).
use Prim.Native.Nat.{◌+◌}
use mathlib.Core.Path.{sym, ◌∙◌}
use native.Mathlib.Omega.{arith}
use lib.ListN.{drop}
use Rattle.tokens.specs.Reading.{closing}
use Rattle.tokens.proofs.Quoted.{further-none, string_on, string-closed, string-broken}
use Rattle.tokens.proofs.tokens.string_token.Goals as goal

pub loop-next-init : goal.loop-next-init
loop-next-init c =
    let a = c.args in
    (omega arith, further-none (a.at + 1) (closing (drop (a.at + 1) a.s.now)))

pub loop-next-smaller : goal.loop-next-smaller
loop-next-smaller c =
    let a = c.args in
    let l = c.loop-next in
    let k = sym c.character.ensures ∙ c.in-Stands.is in
    let h = string_on a.s.now a.at l.inside.at l.invariant.0 l.invariant.1 k in
    omega (arith, h.0, h.1)

pub loop-next-preserved : goal.loop-next-preserved
loop-next-preserved c =
    let a = c.args in
    let l = c.loop-next in
    let k = sym c.character.ensures ∙ c.in-Stands.is in
    let h = string_on a.s.now a.at l.inside.at l.invariant.0 l.invariant.1 k in
    (omega (arith, h.0), h.2)

pub returns-in-Closed : goal.returns-in-Closed
returns-in-Closed c =
    let a = c.args in
    let l = c.loop-next in
    let k = sym c.character.ensures ∙ c.in-Closed.is in
    c.spanning.ensures
    ∙ sym (string-closed a.s.now a.at l.inside.at l.invariant.0 l.invariant.1 a.directly k)

pub returns-in-Broken : goal.returns-in-Broken
returns-in-Broken c =
    let a = c.args in
    let l = c.loop-next in
    let k = sym c.character.ensures ∙ c.in-Broken.is in
    c.spanning-in-Broken.ensures
    ∙ sym (string-broken a.s.now a.at l.inside.at l.invariant.0 l.invariant.1 a.directly k)
