-- The loop holds the number of the bytes from its place on, which so few bytes keep below 48 bits. Assumes nothing.
use Prim.Native.Nat.{◌-◌}
use mathlib.Core.Path.{◌≡◌, sym, ◌∙◌}
use native.Mathlib.Omega.{arith}
use lib.Seq.{slice_empty}
use Rattle.names.specs.Inner.Packing.{pack}
use Rattle.names.proofs.Packs.{number-none, number-long, number_short, number_cut, room_six, room-step, pack-step}
use Rattle.names.proofs.lookup.packed.Goals.{then-end-start-via-then-end-start, then-end-start-via-else-end-start+then-end-start-gt6}
use Rattle.names.proofs.lookup.packed.Goals as goal

pub returns-then-end-start : goal.returns-then-end-start
returns-then-end-start c =
    let a = c.args in
    let e = c.min-end.result in
    let cut = number_cut a.s.now a.start a.end in
    elim c.then-end-start.branch [
      | then-end-start-via-then-end-start w ↦ sym (number-none a.s.now a.start e (omega arith) (omega arith)) ∙ cut e c.min-end.ensures
      | then-end-start-via-else-end-start+then-end-start-gt6 w ↦ sym (number-long a.s.now a.start e (omega arith) (omega arith)) ∙ cut e c.min-end.ensures
    ]

pub loop-i-init : goal.loop-i-init
unfolding pack
loop-i-init c =
    let e = c.min-end.result in
    let z : e - e ≡ 0 = omega arith in
    (omega arith, rw z (omega arith), rw (slice_empty e c.args.s.now))

pub overflow_mul-number : goal.overflow_mul-number
overflow_mul-number c = omega (arith, room_six (c.min-end.result - c.loop-i.i) (omega arith))

pub overflow_add-number : goal.overflow_add-number
overflow_add-number c = omega (arith, room_six (c.min-end.result - c.loop-i.i) (omega arith))

pub loop-i-preserved : goal.loop-i-preserved
loop-i-preserved c =
    let e = c.min-end.result in
    let r = room-step c.loop-i.number c.from.result c.loop-i.i e (omega arith) (omega arith) (omega arith) (omega arith) in
    (omega arith, r, omega (arith, pack-step c.args.s.now c.loop-i.i e (omega arith) (omega arith) (omega arith)))

pub returns : goal.returns
returns c =
    let a = c.args in
    let e = c.min-end.result in
    let to : c.loop-i.i ≡ a.start = omega arith in
    (rw to at c.loop-i.invariant.2) ∙ sym (number_short a.s.now a.start e (omega arith) (omega arith)) ∙ number_cut a.s.now a.start a.end e c.min-end.ensures
