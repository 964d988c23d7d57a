-- What is left names what the whole word names, behind the digits that were read.
use mathlib.Core.Path.{◌≡◌}
use Prim.Native.Nat.{◌≤◌}
use lib.ListN.{drop}
use Rattle.run.specs.Budgets.{budget_after, budget_of}
use Rattle.run.proofs.arguments.budget_of.Given as goal

abbrev pub invariant-loop-b : goal.invariant-loop-b
invariant-loop-b l = (budget_after l.steps (drop l.b-index l.word) ≡ budget_of l.word) × (l.steps ≤ 1000000)
