-- The loop holds the number of the bytes from its place on, which so few bytes keep below 48 bits. Assumes nothing.
use Prim.Native.Nat.{◌-◌, ◌≤◌, ◌<◌}
use mathlib.Core.List.{map}
use mathlib.Core.Path.{◌≡◌}
use lib.Seq.{slice}
use Rattle.names.specs.Inner.Packing.{pack, digit}
use Rattle.names.proofs.Packs.{room}
use Rattle.names.proofs.lookup.packed.Given as goal

abbrev pub invariant-loop-i : goal.invariant-loop-i
invariant-loop-i l = (l.start ≤ l.i) × (l.number < room (l.end - l.i)) × (l.number ≡ pack (map digit (slice l.i l.end l.s)))
