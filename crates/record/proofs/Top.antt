-- What the crate promises, for a reader. `write_record` answers and leaves in the room exactly what `recorded` of specs/Recording.antt
-- says; here stands what that says of positions and room, and that a record tells what it was made of.
use mathlib.Core.Path.{◌≡◌, refl, sym, ap, ◌∙◌}
use mathlib.Core.List.{List, ◌++◌}
use Prim.Native.Nat.{ℕ, ◌≤◌, ◌<◌}
use native.Mathlib.Omega.{arith}
use borrow.Author.Tests.{le-leb, lt-leb}
use lib.ListN.{length, get_or, drop}
use Rattle.codes.specs.Registers.{A, SR, IX, IY, SP, PC}
use Rattle.numerals.specs.Bytes.{bytes}
use Rattle.machine.specs.declared.Ran.{Ran}
use Rattle.record.specs.Recording.{refusal_of, length_of, Leaves, leaves, fitted, largest_position, text_of_run, recorded}
use Rattle.std.proofs.Common.{Result, Ok, Err}
use Rattle.record.specs.declared.NotRecorded.{NotRecorded}
use Rattle.record.specs.declared.NotRecorded.TheVariants.{TooFar, RoomShort}
use Rattle.record.proofs.Outcomes as outcomes
use Rattle.record.proofs.Tells.{line-tells}
use Rattle.record.proofs.Examples.{Examples}
use Rattle.record.proofs.Examples as worked

module _ (ran : Ran) (room : List ℕ) (taken : ran.registers.taken ≤ largest_position) (written : ran.registers.written ≤ largest_position) where
  -- A room as long as the record is enough: the record stands at its head, and the rest is as it was.
  pub writes : length (text_of_run ran) ≤ length room
      → recorded ran room
      ≡ record { refusal = 0; text = length (text_of_run ran); room = text_of_run ran ++ drop (length (text_of_run ran)) room }
  unfolding fitted
  writes h = sym (outcomes.recorded-fitted ran room taken written) ∙ rw (le-leb (length (text_of_run ran)) (length room) h)

  -- In a shorter one nothing is written.
  pub room-short : length room < length (text_of_run ran) → recorded ran room ≡ leaves (Err RoomShort) room
  unfolding fitted
  room-short h = sym (outcomes.recorded-fitted ran room taken written) ∙ rw (lt-leb (length (text_of_run ran)) (length room) h)

-- ---- a record tells

abbrev pub register : Ran → ℕ → ℕ
register ran code = get_or ran.registers.r code 0

-- what code makes: a stop of 8 bits, a count and positions of 32, registers of 16
pub record Small (ran : Ran) : Type 0 where
  pub small-stop : ran.stop < 256
  pub small_count : ran.count < 4294967296
  pub small-registers : (code : ℕ) → register ran code < 65536
  pub small-taken : ran.registers.taken ≤ largest_position
  pub small-written : ran.registers.written ≤ largest_position

pub record Same (ran ran' : Ran) : Type 0 where
  pub same_stop : ran.stop ≡ ran'.stop
  pub same-steps : ran.count ≡ ran'.count
  pub same_A : register ran A ≡ register ran' A
  pub same_R0 : register ran 0 ≡ register ran' 0
  pub same_R1 : register ran 1 ≡ register ran' 1
  pub same_R2 : register ran 2 ≡ register ran' 2
  pub same_R3 : register ran 3 ≡ register ran' 3
  pub same_R4 : register ran 4 ≡ register ran' 4
  pub same_R5 : register ran 5 ≡ register ran' 5
  pub same_R6 : register ran 6 ≡ register ran' 6
  pub same_R7 : register ran 7 ≡ register ran' 7
  pub same_R8 : register ran 8 ≡ register ran' 8
  pub same_R9 : register ran 9 ≡ register ran' 9
  pub same_SR : register ran SR ≡ register ran' SR
  pub same_IX : register ran IX ≡ register ran' IX
  pub same_IY : register ran IY ≡ register ran' IY
  pub same_SP : register ran SP ≡ register ran' SP
  pub same_PC : register ran PC ≡ register ran' PC
  pub same_taken : ran.registers.taken ≡ ran'.registers.taken
  pub same-written : ran.registers.written ≡ ran'.registers.written

-- Two runs with the same record have the same stop, count, registers and positions.
pub record_tells : (ran ran' : Ran) → Small ran → Small ran' → text_of_run ran ≡ text_of_run ran' → Same ran ran'
record_tells ran ran' s s' e =
    let l0 = line-tells (bytes "stop=") ran.stop ran'.stop _ _ (omega (arith, s.small-stop)) (omega (arith, s'.small-stop)) e in
    let l1 = line-tells (bytes "steps=") ran.count ran'.count _ _ (omega (arith, s.small_count)) (omega (arith, s'.small_count)) l0.1 in
    let l2 = line-tells (bytes "A=") (register ran A) (register ran' A) _ _ (omega (arith, s.small-registers A)) (omega (arith, s'.small-registers A)) l1.1 in
    let l3 = line-tells (bytes "R0=") (register ran 0) (register ran' 0) _ _ (omega (arith, s.small-registers 0)) (omega (arith, s'.small-registers 0)) l2.1 in
    let l4 = line-tells (bytes "R1=") (register ran 1) (register ran' 1) _ _ (omega (arith, s.small-registers 1)) (omega (arith, s'.small-registers 1)) l3.1 in
    let l5 = line-tells (bytes "R2=") (register ran 2) (register ran' 2) _ _ (omega (arith, s.small-registers 2)) (omega (arith, s'.small-registers 2)) l4.1 in
    let l6 = line-tells (bytes "R3=") (register ran 3) (register ran' 3) _ _ (omega (arith, s.small-registers 3)) (omega (arith, s'.small-registers 3)) l5.1 in
    let l7 = line-tells (bytes "R4=") (register ran 4) (register ran' 4) _ _ (omega (arith, s.small-registers 4)) (omega (arith, s'.small-registers 4)) l6.1 in
    let l8 = line-tells (bytes "R5=") (register ran 5) (register ran' 5) _ _ (omega (arith, s.small-registers 5)) (omega (arith, s'.small-registers 5)) l7.1 in
    let l9 = line-tells (bytes "R6=") (register ran 6) (register ran' 6) _ _ (omega (arith, s.small-registers 6)) (omega (arith, s'.small-registers 6)) l8.1 in
    let l10 = line-tells (bytes "R7=") (register ran 7) (register ran' 7) _ _ (omega (arith, s.small-registers 7)) (omega (arith, s'.small-registers 7)) l9.1 in
    let l11 = line-tells (bytes "R8=") (register ran 8) (register ran' 8) _ _ (omega (arith, s.small-registers 8)) (omega (arith, s'.small-registers 8)) l10.1 in
    let l12 = line-tells (bytes "R9=") (register ran 9) (register ran' 9) _ _ (omega (arith, s.small-registers 9)) (omega (arith, s'.small-registers 9)) l11.1 in
    let l13 = line-tells (bytes "SR=") (register ran SR) (register ran' SR) _ _ (omega (arith, s.small-registers SR)) (omega (arith, s'.small-registers SR)) l12.1 in
    let l14 = line-tells (bytes "IX=") (register ran IX) (register ran' IX) _ _ (omega (arith, s.small-registers IX)) (omega (arith, s'.small-registers IX)) l13.1 in
    let l15 = line-tells (bytes "IY=") (register ran IY) (register ran' IY) _ _ (omega (arith, s.small-registers IY)) (omega (arith, s'.small-registers IY)) l14.1 in
    let l16 = line-tells (bytes "SP=") (register ran SP) (register ran' SP) _ _ (omega (arith, s.small-registers SP)) (omega (arith, s'.small-registers SP)) l15.1 in
    let l17 = line-tells (bytes "PC=") (register ran PC) (register ran' PC) _ _ (omega (arith, s.small-registers PC)) (omega (arith, s'.small-registers PC)) l16.1 in
    let l18 = line-tells (bytes "taken=") ran.registers.taken ran'.registers.taken _ _ (omega (arith, s.small-taken)) (omega (arith, s'.small-taken)) l17.1 in
    let l19 = line-tells (bytes "written=") ran.registers.written ran'.registers.written _ _ (omega (arith, s.small-written)) (omega (arith, s'.small-written)) l18.1 in
    record {
      same_stop = l0.0;
      same-steps = l1.0;
      same_A = l2.0;
      same_R0 = l3.0;
      same_R1 = l4.0;
      same_R2 = l5.0;
      same_R3 = l6.0;
      same_R4 = l7.0;
      same_R5 = l8.0;
      same_R6 = l9.0;
      same_R7 = l10.0;
      same_R8 = l11.0;
      same_R9 = l12.0;
      same_SR = l13.0;
      same_IX = l14.0;
      same_IY = l15.0;
      same_SP = l16.0;
      same_PC = l17.0;
      same_taken = l18.0;
      same-written = l19.0;
    }

-- ---- examples, and one reply

pub examples : Examples
examples = worked.examples

-- "That two replies meeting it coincide".
pub answers_coincide : (r s : Result ℕ NotRecorded) {meaning : Leaves} {xs ys : List ℕ} → leaves r xs ≡ meaning → leaves s ys ≡ meaning → (r ≡ s) × (xs ≡ ys)
answers_coincide r s p q =
    (same r s (ap (λ (a : Leaves). a.refusal) (p ∙ sym q)) (ap (λ (a : Leaves). a.text) (p ∙ sym q)), ap (λ (a : Leaves). a.room) (p ∙ sym q))
  where
    same : (r s : Result ℕ NotRecorded) → refusal_of r ≡ refusal_of s → length_of r ≡ length_of s → r ≡ s
    same (Ok n) (Ok m) e f = ap Ok f
    same (Ok n) (Err TooFar) e f = absurd (omega (arith, e))
    same (Ok n) (Err RoomShort) e f = absurd (omega (arith, e))
    same (Err TooFar) (Ok m) e f = absurd (omega (arith, e))
    same (Err TooFar) (Err TooFar) e f = refl
    same (Err TooFar) (Err RoomShort) e f = absurd (omega (arith, e))
    same (Err RoomShort) (Ok m) e f = absurd (omega (arith, e))
    same (Err RoomShort) (Err TooFar) e f = absurd (omega (arith, e))
    same (Err RoomShort) (Err RoomShort) e f = refl
