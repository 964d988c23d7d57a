-- Each flag is its bit times what it counts for; five bits of at most 1 leave the sum below 32.
use Rattle.arithmetic.specs.Flags.{flags_of}
use Rattle.arithmetic.specs.Operations.{outcome}
use Rattle.arithmetic.proofs.flags.outcome_of.Goals as goal

pub returns : goal.returns
unfolding outcome flags_of
returns c =
    rw (
      c.bit_of.ensures.value,
      c.bit_of-2.ensures.value,
      c.bit_of-3.ensures.value,
      c.bit_of-4.ensures.value,
      c.bit_of-5.ensures.value,
    )
