-- What an instruction can come to: its stops, the cells that it names, and the sizes of what it writes. Assumes nothing.
use mathlib.Core.Path.{◌≡◌, refl}
use mathlib.Core.Bool.{Bool, true, false, cond}
use mathlib.Core.Logic.{◌⊎◌, inl, inr}
use mathlib.Core.List.{List}
use Prim.Native.Nat.{ℕ, ◌+◌, ◌%◌, ◌≤◌, ◌<◌}
use native.Mathlib.Omega.{arith}
use borrow.Author.Tests.{ltb-true}
use lib.Dec.{ltb, eqb}
use lib.ListN.{length, get_or}
use Rattle.codes.specs.Registers.{SP, PC}
use Rattle.isa.specs.Inner.Words.{word_of}
use Rattle.isa.specs.declared.Instruction.{Instruction}
use Rattle.isa.specs.declared.Operand.{Operand}
use Rattle.isa.specs.declared.Operand.TheVariants.{Absent, Immediate, Register, Memory, Indirect, IndexedX, IndexedY, IndexedSp, Relative}
use Rattle.effects.specs.Seen.{see}
use Rattle.effects.specs.Places.{plus, place_of, value_at, there_in, target_of}
use Rattle.effects.specs.Stack.{push_cell, pushed_sp, pop_cell, popped_sp}
use Rattle.effects.specs.Effects.{Found, goes_to, writes, pushes, pops, perform_of}
use Rattle.effects.specs.declared.Effect.{Effect}
use Rattle.std.proofs.Common.{Option, None}
use Rattle.effects.specs.declared.Performed.{Performed}
use Rattle.effects.specs.declared.Performed.TheVariants.{Does, Halts, Asks, Stops}
use Rattle.effects.specs.declared.Place.{Place}
use Rattle.effects.specs.declared.Place.TheVariants.{Nowhere, Constant, InRegister, InCell}
use Rattle.effects.specs.declared.Port.{Port}
use Rattle.effects.proofs.Forms.{Small, Written, first, second, register, nowhere, asked_place, Form, goes, puts, pushed, popped, halts, asks, no_divisor, guarded, Addressed, found_by, to_target, by_form}

-- ---- stops, and the cells that are named

-- a stop is 5 or 6; a place that is written is none outside a memory of so many cells
abbrev Sound : ℕ → Performed → Type 0
Sound size (Does e) = there_in size e.to ≡ true
Sound size Halts = Unit {0}
Sound size (Asks q) = there_in size (asked_place q) ≡ true
Sound size (Stops k) = (k ≡ 5) ⊎ (k ≡ 6)

there-cond : (size : ℕ) (t : Bool) (a b : Effect) → there_in size a.to ≡ true → there_in size b.to ≡ true → there_in size (cond t a b).to ≡ true
there-cond size true a b p q = p
there-cond size false a b p q = q

writes-there : (size next sp : ℕ) (p : Place) (v : ℕ) (fl : Option ℕ) → there_in size p ≡ true → there_in size (writes next sp p v fl).to ≡ true
unfolding writes there_in
writes-there size next sp Nowhere v fl h = refl
writes-there size next sp (Constant k) v fl h = refl
writes-there size next sp (InRegister k) v fl h = there-cond size (eqb k PC) _ _ refl refl
writes-there size next sp (InCell a) v fl h = h

module _ (f : Found) (target : Bool) (h : Addressed f target) where
  written-there : {p : Place} → Written f target p → there_in (length f.m) p ≡ true
  unfolding there_in
  written-there (first e) = (h e).0
  written-there (second e) = (h e).1
  written-there (register k) = refl
  written-there nowhere = refl

  form-sound : {x : Performed} → Form f target x → Sound (length f.m) x
  unfolding goes_to pushes pops writes there_in
  form-sound (goes taken) = refl
  form-sound (puts {p} w v fl s) = writes-there (length f.m) f.next f.sp p v fl (written-there w)
  form-sound (pushed v next s n) = guarded (Sound (length f.m)) (ltb (push_cell f.sp) (length f.m)) _ (inl refl) (λ e. e)
  form-sound (popped {p} w) =
      guarded (Sound (length f.m)) (ltb (pop_cell f.sp) (length f.m)) _ (inl refl)
      (λ e. writes-there (length f.m) f.next _ p _ _ (written-there w))
  form-sound halts = tt
  form-sound (asks q w) = written-there w
  form-sound no_divisor = inr refl

perform_sound : (r m : List ℕ) (next : ℕ) (i : Instruction) → Sound (length m) (perform_of r m next i)
perform_sound r m next i =
    by_form (Sound (length m)) r m next i (inl refl) (λ h. form-sound (found_by r m next i) (to_target i) h)

module _ (r m : List ℕ) (next : ℕ) (i : Instruction) where
  -- only "5 memory end" and "6 zero divisor" are left to an instruction that was decoded
  pub perform_stops : (k : ℕ) → perform_of r m next i ≡ Stops k → (k ≡ 5) ⊎ (k ≡ 6)
  perform_stops k e = rw e at (perform_sound r m next i)

  -- a cell that an effect names is a cell of memory, so that no write is lost
  pub perform_names : (e : Effect) (a : ℕ) → perform_of r m next i ≡ Does e → e.to ≡ InCell a → a < length m
  unfolding there_in
  perform_names e a d q = ltb-true a (length m) (rw (d, q) at (perform_sound r m next i))

  -- and so is one that input goes to
  pub perform_asks : (q : Port) (a : ℕ) → perform_of r m next i ≡ Asks q → asked_place q ≡ InCell a → a < length m
  unfolding there_in
  perform_asks q a d p = ltb-true a (length m) (rw (d, p) at (perform_sound r m next i))

-- ---- sizes

-- what an effect writes fits: SP and the value a cell, and the next PC is at most the address after the last cell
abbrev Sized : Performed → Type 0
Sized (Does e) = (e.sp < 65536) × (e.value < 65536) × (e.next ≤ 65536)
Sized Halts = Unit {0}
Sized (Asks q) = Unit {0}
Sized (Stops k) = Unit {0}

jump_sized : (taken : Bool) (target next sp : ℕ) → sp < 65536 → target ≤ 65536 → next ≤ 65536 → Sized (Does (goes_to (cond taken target next) sp))
unfolding goes_to
jump_sized true target next sp s t n = (s, omega arith, t)
jump_sized false target next sp s t n = (s, omega arith, n)

sized-cond : (t : Bool) (a b : Effect) → Sized (Does a) → Sized (Does b) → Sized (Does (cond t a b))
sized-cond true a b p q = p
sized-cond false a b p q = q

writes-sized : (next sp : ℕ) (p : Place) (v : ℕ) (fl : Option ℕ) → sp < 65536 → v < 65536 → next ≤ 65536 → Sized (Does (writes next sp p v fl))
unfolding writes
writes-sized next sp Nowhere v fl s w n = (s, w, n)
writes-sized next sp (Constant k) v fl s w n = (s, w, n)
writes-sized next sp (InRegister k) v fl s w n = sized-cond (eqb k PC) _ _ (s, w, omega arith) (s, w, n)
writes-sized next sp (InCell a) v fl s w n = (s, w, n)

form-sized : (f : Found) (target : Bool) {x : Performed} → Small f → Form f target x → Sized x
unfolding pushes pops pushed_sp popped_sp
form-sized f target s (goes taken) = jump_sized taken _ _ _ s.sp (omega arith) s.next
form-sized f target s (puts {p} w v fl h) = writes-sized _ _ p v fl s.sp (h s) s.next
form-sized f target s (pushed v next h n) =
    guarded Sized (ltb (push_cell f.sp) (length f.m)) _ tt
    (λ e. writes-sized next ((f.sp + 65535) % 65536) (InCell (push_cell f.sp)) v None (omega arith) (h s) (n s))
form-sized f target s (popped {p} w) =
    guarded Sized (ltb (pop_cell f.sp) (length f.m)) _ tt
    (λ e. writes-sized f.next ((f.sp + 1) % 65536) p (get_or f.m (pop_cell f.sp) 0) None (omega arith) (s.cells (pop_cell f.sp)) s.next)
form-sized f target s halts = tt
form-sized f target s (asks q w) = tt
form-sized f target s no_divisor = tt

-- registers and memory hold numbers of 16 bits, and so do the instruction's words
pub record Sixteen (r m : List ℕ) (i : Instruction) : Type 0 where
  pub registers : (k : ℕ) → get_or r k 0 < 65536
  pub cells : (a : ℕ) → get_or m a 0 < 65536
  pub first : word_of i.first < 65536
  pub second : word_of i.second < 65536

small-cond : (t : Bool) (a b : ℕ) → a < 65536 → b < 65536 → cond t a b < 65536
small-cond true a b p q = p
small-cond false a b p q = q

module _ (r : List ℕ) (h : (k : ℕ) → get_or r k 0 < 65536) (next : ℕ) where
  see-small : (k : ℕ) → see r next k < 65536
  unfolding see
  see-small k = small-cond (eqb k PC) (next % 65536) (get_or r k 0) (omega arith) (h k)

  plus-small : (a d : ℕ) → plus a d < 65536
  unfolding plus
  plus-small a d = omega arith

  target_small : (o : Operand) → word_of o < 65536 → target_of (place_of r next o) < 65536
  unfolding target_of place_of
  target_small Absent w = w
  target_small (Immediate v) w = w
  target_small (Register k) w = omega arith
  target_small (Memory a) w = w
  target_small (Indirect k) w = see-small k
  target_small (IndexedX d) w = plus-small _ d
  target_small (IndexedY d) w = plus-small _ d
  target_small (IndexedSp d) w = plus-small _ d
  target_small (Relative d) w = plus-small _ d

  value-small : (m : List ℕ) → ((a : ℕ) → get_or m a 0 < 65536) → (p : Place) → target_of p < 65536 → value_at r m next p < 65536
  unfolding target_of value_at
  value-small m c Nowhere t = omega arith
  value-small m c (Constant v) t = t
  value-small m c (InRegister k) t = see-small k
  value-small m c (InCell a) t = c a

pub perform_sized : (r m : List ℕ) (next : ℕ) (i : Instruction) (e : Effect) → Sixteen r m i → next ≤ 65536 → perform_of r m next i ≡ Does e →
    (e.sp < 65536) × (e.value < 65536) × (e.next ≤ 65536)
perform_sized r m next i e h n d =
    let first = target_small r h.registers next i.first h.first in
    let second = target_small r h.registers next i.second h.second in
    let small : Small (found_by r m next i) = record {
      x = value-small r h.registers next m h.cells (place_of r next i.first) first;
      y = value-small r h.registers next m h.cells (place_of r next i.second) second;
      sp = h.registers SP;
      next = n;
      target = first;
      cells = h.cells;
    } in
    rw d at (by_form Sized r m next i tt (λ _. form-sized (found_by r m next i) (to_target i) small))
