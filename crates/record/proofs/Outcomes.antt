-- What writing a record answers, from what putting its text into the room does.
use mathlib.Core.Path.{◌≡◌, refl, ap, ◌∙◌}
use mathlib.Core.Bool.{Bool, true, false, cond}
use mathlib.Core.List.{List, ◌++◌}
use Prim.Native.Nat.{ℕ, ◌+◌, ◌≤◌, ◌<◌}
use native.Mathlib.Omega.{arith}
use borrow.Author.Tests.{le-leb, lt-leb}
use lib.Dec.{leb}
use lib.ListN.{length, take, drop}
use lib.Seq.{take_at}
use Rattle.ports.specs.Overwriting.{overwrite}
use Rattle.ports.specs.Input.{Passed, passed}
use Rattle.ports.specs.Output.{text_put}
use Rattle.std.proofs.Common.{Result, Ok, Err}
use Rattle.std.specs.Result.{MatchResult, IsErrAnd, OkIff}
use Rattle.record.specs.declared.NotRecorded.{NotRecorded}
use Rattle.record.specs.declared.NotRecorded.TheVariants.{TooFar, RoomShort}
use Rattle.texts.specs.Inner.Wrote.{Wrote}
use Rattle.texts.proofs.Rooms.{overwrite-front}
use Rattle.machine.specs.declared.Ran.{Ran}
use Rattle.record.specs.Recording.{Leaves, leaves, fitted, largest_position, text_of_run, recorded}

-- a text at the head of a room is the room's part before the next place
pub head-text : (xs text : List ℕ) {after : List ℕ} {next : ℕ} → Wrote xs 0 text after next → take next after ≡ text
head-text xs text w =
    let e : 0 + length text ≡ length text = omega arith in
    rw (w.1, w.0, overwrite-front xs text, e) (take_at text _ (length text) refl)

-- what putting a text means for a record's answer
abbrev pub answered : Result ℕ ℕ → List ℕ → Leaves
answered (Ok n) room = leaves (Ok n) room
answered (Err k) room = leaves (Err RoomShort) room

pub put-fitted : (text room : List ℕ) → answered (text_put room 0 text).moved (text_put room 0 text).row ≡ fitted text room
unfolding text_put fitted
put-fitted text room =
    let e : 0 + length text ≡ length text = omega arith in
    rw e (go (leb (length text) (length room)))
  where
    go : (b : Bool)
        → answered (cond b (passed (Ok (length text)) (overwrite room 0 text)) (passed (Err 9) room)).moved
        (cond b (passed (Ok (length text)) (overwrite room 0 text)) (passed (Err 9) room)).row
        ≡ cond b (record { refusal = 0; text = length text; room = text ++ drop (length text) room }) (record { refusal = 2; text = 0; room = room })
    go true = rw (overwrite-front room text)
    go false = refl

-- the part of a room that was written, put into another
module _ (xs text room : List ℕ) {mid after : List ℕ} {end : ℕ} {r : Result ℕ ℕ} (w : Wrote xs 0 text mid end × (end ≤ 400))
    (put : passed r after ≡ text_put room 0 (take end mid)) where
  fits_so : answered r after ≡ fitted text room
  fits_so =
      ap (λ (p : Passed). answered p.moved p.row) (put ∙ ap (text_put room 0) (head-text xs text w.0))
      ∙ put-fitted text room

  -- each stop of putting it is that the room is short
  pub put-answers : {P : ℕ → NotRecorded → Type 0} (q : Result ℕ NotRecorded) → ((k : ℕ) (why : NotRecorded) → P k why → why ≡ RoomShort)
      → MatchResult r (λ (n : ℕ). q ≡ Ok n) (λ (k : ℕ). IsErrAnd q (P k)) → leaves q after ≡ fitted text room
  put-answers {P = P} q short m = go r m ∙ fits_so
    where
      go : (s : Result ℕ ℕ) → MatchResult s (λ (n : ℕ). q ≡ Ok n) (λ (k : ℕ). IsErrAnd q (P k)) → leaves q after ≡ answered s after
      go (Ok n) e = ap (λ (a : Result ℕ NotRecorded). leaves a after) e
      go (Err k) e = told q e
        where
          told : (a : Result ℕ NotRecorded) → IsErrAnd a (P k) → leaves a after ≡ leaves (Err RoomShort) after
          told (Ok n) z = absurd z
          told (Err why) p = ap (λ (w : NotRecorded). leaves (Err w) after) (short k why p)

-- a position as 32 bits, or that it is too far
abbrev pub Told : ℕ → Result ℕ NotRecorded → Type 0
Told x q = MatchResult q (λ (n : ℕ). (x ≤ largest_position) × (n ≡ x)) (λ (why : NotRecorded). (largest_position < x) × (why ≡ TooFar))

pub position-told : {E : Type 0} {P : E → NotRecorded → Type 0} (x : ℕ) (r : Result ℕ E) (q : Result ℕ NotRecorded)
    → ((e : E) (why : NotRecorded) → P e why → why ≡ TooFar) → OkIff r (x < 4294967296) x
    → MatchResult r (λ (n : ℕ). q ≡ Ok n) (λ (e : E). IsErrAnd q (P e)) → Told x q
position-told x (Ok n) q far f m = rw m (omega (arith, f.0), f.1)
position-told x (Err e) (Ok n) far f m = absurd m
position-told x (Err e) (Err why) far f m = (omega (arith, f), far e why m)

module _ (ran : Ran) (room : List ℕ) where
  pub recorded-taken : largest_position < ran.registers.taken → leaves (Err TooFar) room ≡ recorded ran room
  unfolding recorded
  recorded-taken h = rw (lt-leb _ _ h)

  pub recorded-written : ran.registers.taken ≤ largest_position → largest_position < ran.registers.written → leaves (Err TooFar) room ≡ recorded ran room
  unfolding recorded
  recorded-written g h = rw (le-leb _ _ g, lt-leb _ _ h)

  pub recorded-fitted : ran.registers.taken ≤ largest_position → ran.registers.written ≤ largest_position
      → fitted (text_of_run ran) room ≡ recorded ran room
  unfolding recorded
  recorded-fitted g h = rw (le-leb _ _ g, le-leb _ _ h)
