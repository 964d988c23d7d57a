-- What an effect leaves in registers and memory (01, "What a step does").
use Rattle.std.specs.Prelude.{ℕ, ◌+◌, ◌*◌, ◌/◌, ◌%◌, cond, List, eqb, get_or, set, Option, Some, None}
use Rattle.codes.specs.Flags.{for_h}
use Rattle.codes.specs.Registers.{SR, SP, PC}
use Rattle.effects.specs.declared.Place.{Place}
use Rattle.effects.specs.declared.Place.TheVariants.{Nowhere, Constant, InRegister, InCell}
use Rattle.effects.specs.declared.Effect.{Effect}

-- "Writing SR sets bits 0..4 and keeps H"
unfoldable pub keeping_h : ℕ → ℕ → ℕ
keeping_h sr v = v % for_h + sr / for_h * for_h

-- a write to a register
unfoldable pub with_register : List ℕ → ℕ → ℕ → List ℕ
with_register r k v = cond (eqb k SR) (set r SR (keeping_h (get_or r SR 0) v)) (set r k v)

abbrev pub register_written : List ℕ → Place → ℕ → List ℕ
register_written r Nowhere v = r
register_written r (Constant k) v = r
register_written r (InRegister k) v = with_register r k v
register_written r (InCell a) v = r

abbrev pub cell_written : List ℕ → Place → ℕ → List ℕ
cell_written m Nowhere v = m
cell_written m (Constant k) v = m
cell_written m (InRegister k) v = m
cell_written m (InCell a) v = set m a v

-- flags that an operation gave
abbrev pub flagged : List ℕ → Option ℕ → List ℕ
flagged r None = r
flagged r (Some fl) = set r SR (keeping_h (get_or r SR 0) fl)

-- SP, then the result, then "Arithmetic and CMP set Z, S, P .. after storing it", and PC "kept modulo 65536"
unfoldable pub registers_after : List ℕ → Effect → List ℕ
registers_after r e = set (flagged (register_written (set r SP e.sp) e.to e.value) e.flags) PC (e.next % 65536)

unfoldable pub memory_after : List ℕ → Effect → List ℕ
memory_after m e = cell_written m e.to e.value
