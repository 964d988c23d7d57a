-- What a step of a machine that runs comes to: it completes, or it is a refusal. Assumes nothing.
use mathlib.Core.Path.{◌≡◌, refl, ap}
use mathlib.Core.Bool.{Bool, true, false, cond}
use mathlib.Core.Logic.{◌⊎◌, inl, inr}
use mathlib.Core.List.{List}
use Prim.Native.Nat.{ℕ, ◌+◌, ◌%◌, ◌≤◌, ◌<◌}
use native.Mathlib.Decide.{dec_le}
use native.Mathlib.Omega.{arith}
use borrow.Author.Tests.{ltb-true}
use lib.Dec.{ltb}
use lib.ListN.{length, get_or, set, length-set}
use lib.Seq.{get_or-set_same, get_or-set_other, set_out}
use Rattle.codes.specs.Registers.{SR, SP, PC}
use Rattle.isa.specs.Decoding.{decode_of}
use Rattle.isa.specs.declared.Decoded.{Decoded}
use Rattle.std.proofs.Common.{None, Result, Ok, Err}
use Rattle.isa.specs.declared.Undecoded.{Undecoded}
use Rattle.isa.specs.declared.Undecoded.TheVariants.{NoOpcode, NoMode, NoRegister, PastMemory}
use Rattle.effects.specs.Effects.{writes, perform_of}
use Rattle.effects.specs.declared.Effect.{Effect}
use Rattle.effects.specs.declared.Place.{Place}
use Rattle.effects.specs.declared.Port.{Port}
use Rattle.effects.specs.declared.Port.TheVariants.{TakeByte, TakeNumber, TakeString, PutByte, PutNumber, PutString}
use Rattle.effects.specs.declared.Performed.{Performed}
use Rattle.effects.specs.declared.Performed.TheVariants.{Does, Halts, Asks, Stops}
use Rattle.effects.proofs.Outcomes.{perform_stops}
use Rattle.effects.proofs.Laws.{registers-length, memory-length, SR_six_bits}
use Rattle.ports.specs.Input.{Passed, byte_taken, number_taken, string_taken}
use Rattle.ports.specs.Output.{byte_put, number_put, string_put}
use Rattle.ports.specs.declared.Taken.{Taken}
use Rattle.ports.proofs.Laws.{Keeps, Within, Past, Only, Either, WRCHAR-keeps, WRINT-keeps, WRSTR-keeps, INSTR-keeps, ININT-takes}
use Rattle.machine.specs.States.{State, register}
use Rattle.machine.specs.Stops.{Answer, refuses}
use Rattle.machine.specs.Steps.{stop_at, does, halts, takes, goes_on, fills, prints, asks, performed, decoded, runs_on}
use Rattle.machine.proofs.GoodLoans.{Good}

-- ---- the two outcomes

-- a step that completes leaves a good loan of the same sizes, and its stop, 0, 1 or 5, as the stop code
pub record Completes (input : List ℕ) (s : State) (a : Answer) : Type 0 where
  pub done : a.completed ≡ true
  pub code : a.after.registers.stop ≡ a.stop
  pub stop : (a.stop ≡ 0) ⊎ ((a.stop ≡ 1) ⊎ (a.stop ≡ 5))
  pub good : Good input a.after
  pub cells : length a.after.memory ≡ length s.memory
  pub room : length a.after.output ≡ length s.output
  pub registers : length a.after.registers.r ≡ length s.registers.r

-- the stops of a refusal
pub record Stop (k : ℕ) : Type 0 where
  pub least : 2 ≤ k
  pub most : k ≤ 9
  pub no_budget : k ≡ 7 → ⊥

-- or it refuses: "All change nothing except that 2 to 6 set the stop code"
pub record Refuses (s : State) (a : Answer) : Type 0 where
  pub stop : Stop a.stop
  pub refusal : a ≡ refuses s a.stop

abbrev pub Outcome : List ℕ → State → Answer → Type 0
Outcome input s a = Completes input s a ⊎ Refuses s a

-- ---- stops

stop-at : (next size : ℕ) → (stop_at next size ≡ 0) ⊎ (stop_at next size ≡ 5)
unfolding stop_at
stop-at next size = go (ltb next size)
  where
    go : (t : Bool) → (◌≡◌ {A = ℕ} (cond t 0 5) 0) ⊎ (◌≡◌ {A = ℕ} (cond t 0 5) 5)
    go true = inl refl
    go false = inr refl

stop-below : (k : ℕ) → 2 ≤ k → k ≤ 6 → Stop k
stop-below k l h = record { least = l; most = omega arith; no_budget = λ q. omega arith }

stop-past : (k : ℕ) → 8 ≤ k → k ≤ 9 → Stop k
stop-past k l h = record { least = omega arith; most = h; no_budget = λ q. omega arith }

stop_eight : (k : ℕ) → k ≡ 8 → Stop k
stop_eight k e = stop-past k (omega arith) (omega arith)

stop_nine : (k : ℕ) → k ≡ 9 → Stop k
stop_nine k e = stop-past k (omega arith) (omega arith)

stop-filling : (k : ℕ) → (k ≡ 5) ⊎ (k ≡ 8) → Stop k
stop-filling k (inl e) = stop-below k (omega arith) (omega arith)
stop-filling k (inr e) = stop_eight k e

stop_printing : (k : ℕ) → (k ≡ 5) ⊎ (k ≡ 9) → Stop k
stop_printing k (inl e) = stop-below k (omega arith) (omega arith)
stop_printing k (inr e) = stop_nine k e

stop_performing : (k : ℕ) → (k ≡ 5) ⊎ (k ≡ 6) → Stop k
stop_performing k (inl e) = stop-below k (omega arith) (omega arith)
stop_performing k (inr e) = stop-below k (omega arith) (omega arith)

-- INCHAR takes a byte that is there, whatever stands there
module _ (input : List ℕ) (at : ℕ) where
  abbrev byte_there : Taken
  byte_there = record { value = get_or input at 0; after = at + 1 }

  byte-within : (t : Taken) → byte_taken input at ≡ Ok t → t.after ≤ length input
  unfolding byte_taken
  byte-within t = go (ltb at (length input)) refl
    where
      go : (b : Bool) → ltb at (length input) ≡ b → cond {A = Result Taken ℕ} b (Ok byte_there) (Err 8) ≡ Ok t → t.after ≤ length input
      go true e q = let l : at < length input = ltb-true at (length input) e in let z : byte_there ≡ t = cc in omega (arith, ap (λ (u : Taken). u.after) z)
      go false e q = let z : ◌≡◌ {A = ℕ} 0 1 = cc in absurd (omega arith)

  byte-ends : (k : ℕ) → byte_taken input at ≡ Err k → k ≡ 8
  unfolding byte_taken
  byte-ends k = go (ltb at (length input))
    where
      go : (b : Bool) → cond {A = Result Taken ℕ} b (Ok byte_there) (Err 8) ≡ Err k → k ≡ 8
      go true q = cc
      go false q = cc

-- a refusal by a number that is a stop
refuses_by : (input : List ℕ) (s : State) (k : ℕ) → Stop k → Outcome input s (refuses s k)
unfolding refuses
refuses_by input s k h = inr (record { stop = h; refusal = refl })

-- ---- steps that complete

-- SR after other registers were written, or after six bits were written to it
SR_elsewhere : (r : List ℕ) (k v : ℕ) → (SR ≡ k → ⊥) → get_or r SR 0 ≤ 63 → get_or (set r k v) SR 0 ≤ 63
SR_elsewhere r k v n h = rw (get_or-set_other r k SR v 0 n) h

SR_written : (r : List ℕ) (v : ℕ) → v ≤ 63 → get_or r SR 0 ≤ 63 → get_or (set r SR v) SR 0 ≤ 63
SR_written r v b h =
    elim (dec_le (length r) SR) [
      | yes l ↦ rw (set_out r SR v l) h
      | no l ↦ rw (get_or-set_same r SR v 0 (omega arith)) b
    ]

module _ (input : List ℕ) (s : State) (good : Good input s) where
  does-completes : (e : Effect) (taken written : ℕ) → taken ≤ length input → written ≤ length s.output → Completes input s (does s e taken written)
  unfolding does
  does-completes e taken written t w =
      let stop = stop-at e.next (length s.memory) in
      record {
        done = refl;
        code = refl;
        stop = elim stop [ inl z ↦ inl z | inr f ↦ inr (inr f) ];
        good = record {
          some = rw (memory-length s.memory e) good.some;
          most = rw (memory-length s.memory e) good.most;
          taken = t;
          written = w;
          six_bits = SR_six_bits s.registers.r e good.six_bits;
          code = elim stop [ inl z ↦ omega arith | inr f ↦ omega arith ];
        };
        cells = memory-length s.memory e;
        room = refl;
        registers = registers-length s.registers.r e;
      }

  halts-completes : (next : ℕ) → Completes input s (halts s next)
  unfolding halts
  halts-completes next =
      record {
        done = refl;
        code = refl;
        stop = inr (inl refl);
        good = record {
          some = good.some;
          most = good.most;
          taken = good.taken;
          written = good.written;
          six_bits =
              SR_elsewhere (set s.registers.r SR (register s SR % 32 + 32)) PC (next % 65536) (λ q. omega arith)
              (SR_written s.registers.r (register s SR % 32 + 32) (omega arith) good.six_bits);
          code = omega arith;
        };
        cells = refl;
        room = refl;
        registers = simp length-set;
      }

  goes_on_completes : (next taken written : ℕ) (m out : List ℕ) → taken ≤ length input → written ≤ length s.output →
      length m ≡ length s.memory → length out ≡ length s.output → Completes input s (goes_on s next taken written m out)
  unfolding goes_on
  goes_on_completes next taken written m out t w lm lo =
      let stop = stop-at next (length s.memory) in
      record {
        done = refl;
        code = refl;
        stop = elim stop [ inl z ↦ inl z | inr f ↦ inr (inr f) ];
        good = record {
          some = rw lm good.some;
          most = rw lm good.most;
          taken = t;
          written = rw lo w;
          six_bits = SR_elsewhere s.registers.r PC (next % 65536) (λ q. omega arith) good.six_bits;
          code = elim stop [ inl z ↦ omega arith | inr f ↦ omega arith ];
        };
        cells = lm;
        room = lo;
        registers = length-set s.registers.r PC (next % 65536);
      }

  -- ---- input and output

  takes-outcome : (next : ℕ) (place : Place) (got : Result Taken ℕ) → ((t : Taken) → got ≡ Ok t → t.after ≤ length input) → ((k : ℕ) → got ≡ Err k → k ≡ 8) →
      Outcome input s (takes s next place got)
  takes-outcome next place (Ok r) h n =
      inl (does-completes (writes next (register s SP) place r.value None) r.after s.registers.written (h r refl) good.written)
  takes-outcome next place (Err k) h n = refuses_by input s k (stop_eight k (n k refl))

  module _ (next : ℕ) (its : Passed) where
    fills-outcome : Keeps s.memory (Past s.registers.taken input) (Either 5 8) its → Outcome input s (fills s next its.moved its.row)
    fills-outcome h = go its.moved refl
      where
        go : (v : Result ℕ ℕ) → its.moved ≡ v → Outcome input s (fills s next v its.row)
        go (Ok t) e = inl (goes_on_completes next t s.registers.written its.row s.output (h.moves e).1 good.written h.same_length refl)
        go (Err k) e = refuses_by input s k (stop-filling k (h.refuses e).1)

    prints-outcome : (stop : ℕ → Type 0) → ((k : ℕ) → stop k → Stop k) → Keeps s.output (Within s.registers.written s.output) stop its →
        Outcome input s (prints s next its.moved its.row)
    prints-outcome stop n h = go its.moved refl
      where
        go : (v : Result ℕ ℕ) → its.moved ≡ v → Outcome input s (prints s next v its.row)
        go (Ok w) e = inl (goes_on_completes next s.registers.taken w s.memory its.row good.taken (h.moves e).1 refl h.same_length)
        go (Err k) e = refuses_by input s k (n k (h.refuses e).1)

  asks-outcome : (next : ℕ) (port : Port) → Outcome input s (asks input s next port)
  unfolding asks
  asks-outcome next (TakeByte place) =
      takes-outcome next place (byte_taken input s.registers.taken) (byte-within input s.registers.taken) (byte-ends input s.registers.taken)
  asks-outcome next (TakeNumber place) =
      let its = ININT-takes input s.registers.taken in
      takes-outcome next place (number_taken input s.registers.taken) (λ t e. (its.moves e).0.1) (λ k e. its.refuses e)
  asks-outcome next (TakeString to) =
      fills-outcome next (string_taken s.memory to input s.registers.taken) (INSTR-keeps input s.registers.taken s.memory to)
  asks-outcome next (PutByte x) =
      prints-outcome next (byte_put s.output s.registers.written x) (Only 9) stop_nine (WRCHAR-keeps s.output s.registers.written x)
  asks-outcome next (PutNumber x) =
      prints-outcome next (number_put s.output s.registers.written x) (Only 9) stop_nine (WRINT-keeps s.output s.registers.written x)
  asks-outcome next (PutString from) =
      prints-outcome next (string_put s.output s.registers.written s.memory from) (Either 5 9) stop_printing
      (WRSTR-keeps s.output s.registers.written s.memory from)

  -- ---- the instruction, and the word before it

  performed-outcome : (next : ℕ) (p : Performed) → ((k : ℕ) → p ≡ Stops k → (k ≡ 5) ⊎ (k ≡ 6)) → Outcome input s (performed input s next p)
  performed-outcome next (Does e) h = inl (does-completes e s.registers.taken s.registers.written good.taken good.written)
  performed-outcome next Halts h = inl (halts-completes next)
  performed-outcome next (Asks port) h = asks-outcome next port
  performed-outcome next (Stops k) h = refuses_by input s k (stop_performing k (h k refl))

  decoded-outcome : (d : Result Decoded Undecoded) → Outcome input s (decoded input s d)
  decoded-outcome (Ok r) =
      performed-outcome r.next.0 (perform_of s.registers.r s.memory r.next.0 r.instruction) (perform_stops s.registers.r s.memory r.next.0 r.instruction)
  decoded-outcome (Err NoOpcode) = refuses_by input s 2 (stop-below 2 (omega arith) (omega arith))
  decoded-outcome (Err NoMode) = refuses_by input s 3 (stop-below 3 (omega arith) (omega arith))
  decoded-outcome (Err NoRegister) = refuses_by input s 4 (stop-below 4 (omega arith) (omega arith))
  decoded-outcome (Err PastMemory) = refuses_by input s 5 (stop-below 5 (omega arith) (omega arith))

  pub outcome : Outcome input s (runs_on input s)
  unfolding runs_on
  outcome = decoded-outcome (decode_of s.memory (register s PC))
