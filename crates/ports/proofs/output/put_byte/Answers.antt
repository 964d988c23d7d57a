-- One store is the overwriting by one element.
use mathlib.Core.Path.{sym}
use mathlib.Core.List.{[], ◌∷◌}
use Prim.Native.Nat.{◌+◌, ◌%◌}
use native.Mathlib.Omega.{arith}
use borrow.Author.Tests.{le-leb, lt-leb}
use lib.ListN.{length}
use Rattle.ports.specs.Output.{byte_put}
use Rattle.ports.proofs.Overwrites.{overwrite-one}
use Rattle.ports.proofs.Outcomes.{text-put, text-short}
use Rattle.ports.proofs.output.put_byte.Goals as goal

pub returns-then-out-at : goal.returns-then-out-at
unfolding byte_put
returns-then-out-at c =
    let a = c.args in
    sym (text-short _ _ (a.x % 256 ∷ []) (lt-leb (a.at + 1) (length a.out.now) (omega arith)))

pub returns : goal.returns
unfolding byte_put
returns c =
    let a = c.args in
    rw (text-put _ _ (a.x % 256 ∷ []) (le-leb (a.at + 1) (length a.out.now) (omega arith)), ← overwrite-one a.out.now a.at (a.x % 256) c.if-out-at.false)
