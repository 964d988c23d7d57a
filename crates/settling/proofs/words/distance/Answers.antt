-- The two bounds, tested one after the other.
use mathlib.Core.Path.{refl}
use Rattle.settling.proofs.Laws.{too_low, too_high, in_reach}
use Rattle.settling.proofs.words.distance.Goals as goal
use Rattle.settling.proofs.words.distance.Goals.{then-v-next-via-then-v-next, then-v-next-via-else-v-next+then-next-v}

pub returns-then-v-next : goal.returns-then-v-next
returns-then-v-next c =
    elim c.then-v-next.branch [
      | then-v-next-via-then-v-next w ↦ (too_low c.args.value c.args.next w.if-v-next.true, refl)
      | then-v-next-via-else-v-next+then-next-v w ↦ (too_high c.args.value c.args.next w.if-v-next.false w.if-next-v.true, refl)
    ]

pub returns : goal.returns
returns c = (in_reach c.args.value c.args.next c.if-v-next.false c.if-next-v.false, refl)
