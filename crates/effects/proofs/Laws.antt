-- What an effect leaves: the lengths, PC, H and the six bits of SR, and all that it does not name. Assumes nothing.
use mathlib.Core.Path.{◌≡◌, refl, sym, ap, ◌∙◌}
use mathlib.Core.Bool.{Bool, true, false, cond}
use mathlib.Core.List.{List, [], ◌∷◌}
use Prim.Native.Nat.{ℕ, zero, suc, ◌+◌, ◌*◌, ◌/◌, ◌%◌, ◌≤◌, ◌<◌}
use native.Mathlib.Omega.{arith}
use borrow.Author.Tests.{eqb-false, ne_eqb}
use lib.Dec.{eqb}
use lib.ListN.{length, get_or, set, length-set}
use lib.Seq.{get_or-set_same, get_or-set_other}
use Rattle.codes.specs.Registers.{SR, SP, PC}
use Rattle.effects.specs.Applied.{keeping_h, with_register, register_written, cell_written, flagged, registers_after, memory_after}
use Rattle.effects.specs.declared.Effect.{Effect}
use Rattle.std.proofs.Common.{Option, Some, None}
use Rattle.effects.specs.declared.Place.{Place}
use Rattle.effects.specs.declared.Place.TheVariants.{Nowhere, Constant, InRegister, InCell}

-- ---- lengths

register-length : (t : Bool) (r : List ℕ) (k v w : ℕ) → length (cond t (set r SR w) (set r k v)) ≡ length r
register-length true r k v w = length-set r SR w
register-length false r k v w = length-set r k v

result-length : (r : List ℕ) (p : Place) (v : ℕ) → length (register_written r p v) ≡ length r
unfolding with_register
result-length r Nowhere v = refl
result-length r (Constant k) v = refl
result-length r (InRegister k) v = register-length (eqb k SR) r k v (keeping_h (get_or r SR 0) v)
result-length r (InCell a) v = refl

flags-length : (r : List ℕ) (fl : Option ℕ) → length (flagged r fl) ≡ length r
flags-length r None = refl
flags-length r (Some b) = length-set r SR (keeping_h (get_or r SR 0) b)

-- the 16 registers stay 16
pub registers-length : (r : List ℕ) (e : Effect) → length (registers_after r e) ≡ length r
unfolding registers_after
registers-length r e =
    let started = set r SP e.sp in
    let stored = register_written started e.to e.value in
    length-set (flagged stored e.flags) PC (e.next % 65536) ∙ flags-length stored e.flags ∙ result-length started e.to e.value
    ∙ length-set r SP e.sp

-- and the M cells M
pub memory-length : (m : List ℕ) (e : Effect) → length (memory_after m e) ≡ length m
unfolding memory_after
memory-length m e = cells e.to
  where
    cells : (p : Place) → length (cell_written m p e.value) ≡ length m
    cells Nowhere = refl
    cells (Constant k) = refl
    cells (InRegister k) = refl
    cells (InCell a) = length-set m a e.value

-- ---- PC

-- "After a step PC is kept modulo 65536"
pub PC_after : (r : List ℕ) (e : Effect) → length r ≡ 16 → get_or (registers_after r e) PC 0 ≡ e.next % 65536
unfolding registers_after
PC_after r e l =
    let started = set r SP e.sp in
    let stored = register_written started e.to e.value in
    get_or-set_same (flagged stored e.flags) PC (e.next % 65536) 0
    (omega (arith, flags-length stored e.flags, result-length started e.to e.value, length-set r SP e.sp))

-- ---- SR

-- what holds of a number that is there and of one that is stored holds of what is read afterwards
stored_or_kept : (P : ℕ → Type 0) (l : List ℕ) (i v : ℕ) → P (get_or l i 0) → P v → P (get_or (set l i v) i 0)
stored_or_kept P [] i v p q = p
stored_or_kept P (x ∷ xs) zero v p q = q
stored_or_kept P (x ∷ xs) (suc i) v p q = stored_or_kept P xs i v p q

-- H is bit 5 of SR, and a loan's SR has no higher one
abbrev H_of : List ℕ → ℕ
H_of r = get_or r SR 0 / 32

masked_keeps_H : (r : List ℕ) (v : ℕ) → H_of (set r SR (keeping_h (get_or r SR 0) v)) ≡ H_of r
unfolding keeping_h
masked_keeps_H r v =
    stored_or_kept (λ (n : ℕ). n / 32 ≡ get_or r SR 0 / 32) r SR (keeping_h (get_or r SR 0) v) refl (omega arith)

register_keeps_H : (r : List ℕ) (k v : ℕ) (t : Bool) → eqb k SR ≡ t →
    H_of (cond t (set r SR (keeping_h (get_or r SR 0) v)) (set r k v)) ≡ H_of r
register_keeps_H r k v true e = masked_keeps_H r v
register_keeps_H r k v false e = ap (λ (n : ℕ). n / 32) (get_or-set_other r k SR v 0 (λ q. eqb-false k SR e (sym q)))

result_keeps_H : (r : List ℕ) (p : Place) (v : ℕ) → H_of (register_written r p v) ≡ H_of r
unfolding with_register
result_keeps_H r Nowhere v = refl
result_keeps_H r (Constant k) v = refl
result_keeps_H r (InRegister k) v = register_keeps_H r k v (eqb k SR) refl
result_keeps_H r (InCell a) v = refl

flags_keep_H : (r : List ℕ) (fl : Option ℕ) → H_of (flagged r fl) ≡ H_of r
flags_keep_H r None = refl
flags_keep_H r (Some b) = masked_keeps_H r b

elsewhere_keeps_H : (r : List ℕ) (k v : ℕ) → (SR ≡ k → ⊥) → H_of (set r k v) ≡ H_of r
elsewhere_keeps_H r k v h = ap (λ (n : ℕ). n / 32) (get_or-set_other r k SR v 0 h)

-- "Writing SR sets bits 0..4 and keeps H"; "H stays"
pub H_kept : (r : List ℕ) (e : Effect) → get_or (registers_after r e) SR 0 / 32 ≡ get_or r SR 0 / 32
unfolding registers_after
H_kept r e =
    let started = set r SP e.sp in
    let stored = register_written started e.to e.value in
    elsewhere_keeps_H (flagged stored e.flags) PC (e.next % 65536) (λ q. omega arith)
    ∙ flags_keep_H stored e.flags
    ∙ result_keeps_H started e.to e.value
    ∙ elsewhere_keeps_H r SP e.sp (λ q. omega arith)

-- "SR above 63" is a bad loan: no effect makes one
pub SR_six_bits : (r : List ℕ) (e : Effect) → get_or r SR 0 ≤ 63 → get_or (registers_after r e) SR 0 ≤ 63
SR_six_bits r e h = let k = H_kept r e in omega arith

-- "set Z, S, P .. after storing it": the flags of an operation overwrite what its result left in bits 0 to 4
pub flags-after : (r : List ℕ) (e : Effect) (fl : ℕ) → length r ≡ 16 → e.flags ≡ Some fl →
    get_or (registers_after r e) SR 0 ≡ fl % 32 + get_or r SR 0 / 32 * 32
unfolding registers_after keeping_h
flags-after r e fl l q =
    let started = set r SP e.sp in
    let stored = register_written started e.to e.value in
    let shown = fl % 32 + get_or stored SR 0 / 32 * 32 in
    let long : SR < length stored = omega (arith, result-length started e.to e.value, length-set r SP e.sp) in
    let read : get_or (set (set stored SR shown) PC (e.next % 65536)) SR 0 ≡ shown =
    get_or-set_other (set stored SR shown) PC SR (e.next % 65536) 0 (λ z. omega arith) ∙ get_or-set_same stored SR shown 0 long in
    rw q
    (omega (arith, read, result_keeps_H started e.to e.value, elsewhere_keeps_H r SP e.sp (λ z. omega arith)))

-- ---- what is not named stays

module _ (k : ℕ) where
  register-other : (r : List ℕ) (j v w : ℕ) (t : Bool) → (k ≡ SR → ⊥) → (k ≡ j → ⊥) → get_or (cond t (set r SR w) (set r j v)) k 0 ≡ get_or r k 0
  register-other r j v w true s h = get_or-set_other r SR k w 0 s
  register-other r j v w false s h = get_or-set_other r j k v 0 h

  result-other : (r : List ℕ) (p : Place) (v : ℕ) → (k ≡ SR → ⊥) → (p ≡ InRegister k → ⊥) → get_or (register_written r p v) k 0 ≡ get_or r k 0
  unfolding with_register
  result-other r Nowhere v s h = refl
  result-other r (Constant j) v s h = refl
  result-other r (InRegister j) v s h = register-other r j v (keeping_h (get_or r SR 0) v) (eqb j SR) s (λ q. h (ap InRegister (sym q)))
  result-other r (InCell a) v s h = refl

  flags-other : (r : List ℕ) (fl : Option ℕ) → (k ≡ SR → ⊥) → get_or (flagged r fl) k 0 ≡ get_or r k 0
  flags-other r None s = refl
  flags-other r (Some b) s = get_or-set_other r SR k (keeping_h (get_or r SR 0) b) 0 s

-- a register other than SR, SP and PC that an effect does not name
pub register-kept : (r : List ℕ) (e : Effect) (k : ℕ) → (k ≡ SR → ⊥) → (k ≡ SP → ⊥) → (k ≡ PC → ⊥) → (e.to ≡ InRegister k → ⊥) →
    get_or (registers_after r e) k 0 ≡ get_or r k 0
unfolding registers_after
register-kept r e k sr sp pc h =
    let started = set r SP e.sp in
    let stored = register_written started e.to e.value in
    get_or-set_other (flagged stored e.flags) PC k (e.next % 65536) 0 pc
    ∙ flags-other k stored e.flags sr
    ∙ result-other k started e.to e.value sr h
    ∙ get_or-set_other r SP k e.sp 0 sp

-- and the one that it names holds its value, SR and PC apart, whatever becomes of SP and the flags
pub register-written : (r : List ℕ) (e : Effect) (k : ℕ) → length r ≡ 16 → e.to ≡ InRegister k → k < 16 → (k ≡ SR → ⊥) → (k ≡ PC → ⊥) →
    get_or (registers_after r e) k 0 ≡ e.value
unfolding registers_after with_register
register-written r e k l q h sr pc =
    let started = set r SP e.sp in
    let stored = register_written started e.to e.value in
    let held : get_or stored k 0 ≡ e.value =
    rw (q, ne_eqb k SR sr) (get_or-set_same started k e.value 0 (omega (arith, length-set r SP e.sp))) in
    get_or-set_other (flagged stored e.flags) PC k (e.next % 65536) 0 pc ∙ flags-other k stored e.flags sr ∙ held

-- a cell that an effect does not name
pub cell-kept : (m : List ℕ) (e : Effect) (j : ℕ) → (e.to ≡ InCell j → ⊥) → get_or (memory_after m e) j 0 ≡ get_or m j 0
unfolding memory_after
cell-kept m e j h = cells e.to h
  where
    cells : (p : Place) → (p ≡ InCell j → ⊥) → get_or (cell_written m p e.value) j 0 ≡ get_or m j 0
    cells Nowhere n = refl
    cells (Constant k) n = refl
    cells (InRegister k) n = refl
    cells (InCell a) n = get_or-set_other m a j e.value 0 (λ q. n (ap InCell (sym q)))

-- and the one that it names holds its value
pub cell-written : (m : List ℕ) (e : Effect) (a : ℕ) → e.to ≡ InCell a → a < length m → get_or (memory_after m e) a 0 ≡ e.value
unfolding memory_after
cell-written m e a q h = rw q (get_or-set_same m a e.value 0 h)
