-- One law for each way out of printing, over plain variables: what its promise then says.
use mathlib.Core.Path.{◌≡◌}
use mathlib.Core.Bool.{true, false}
use mathlib.Core.List.{List, ◌++◌}
use Prim.Native.Nat.{ℕ, ◌≤◌, ◌<◌}
use borrow.Author.Tests.{leb-true, eqb-true, le-leb, lt-leb, eq-eqb}
use lib.ListN.{length, drop}
use Rattle.image.specs.Image.{image_text}
use Rattle.image.specs.Printing.{known_marks, good_loan, leaves, printed}
use Rattle.std.proofs.Common.{Ok, Err}
use Rattle.image.specs.declared.NotPrinted.TheVariants.{BadLoan, RoomShort}
use Rattle.ports.specs.Overwriting.{overwrite}
use Rattle.image.proofs.Texts.{both_true}
use Rattle.texts.proofs.Rooms.{overwrite-front}

-- ---- loans

pub loan-marks : (memory marks : List ℕ) → 1 ≤ length memory → length memory ≤ 65536 → length marks ≡ length memory → known_marks marks ≡ good_loan memory marks
unfolding good_loan
loan-marks memory marks g h e = rw (le-leb 1 (length memory) g, le-leb (length memory) 65536 h, eq-eqb (length marks) (length memory) e)

-- what a good loan has
pub loan-good : (memory marks : List ℕ) → good_loan memory marks ≡ true
    → (length marks ≡ length memory) × (length memory ≤ 65536) × (1 ≤ length memory) × (known_marks marks ≡ true)
unfolding good_loan
loan-good memory marks e =
    let a = both_true _ _ e in
    let b = both_true _ _ a.1 in
    let d = both_true _ _ b.1 in
    (eqb-true _ _ d.0, leb-true _ _ b.0, leb-true _ _ a.0, d.1)

-- ---- what is left in the room

module _ (memory marks room : List ℕ) where
  pub printed-bad : good_loan memory marks ≡ false → leaves (Err BadLoan) room ≡ printed memory marks room
  unfolding printed
  printed-bad e = rw e

  pub printed-short : good_loan memory marks ≡ true → length room < length (image_text memory marks) → leaves (Err RoomShort) room ≡ printed memory marks room
  unfolding printed
  printed-short e h = rw (e, lt-leb (length (image_text memory marks)) (length room) h)

  pub printed-room : good_loan memory marks ≡ true → length (image_text memory marks) ≤ length room
      → printed memory marks room
      ≡ record { refusal = 0; text = length (image_text memory marks); room = image_text memory marks ++ drop (length (image_text memory marks)) room }
  unfolding printed
  printed-room e h = rw (e, le-leb (length (image_text memory marks)) (length room) h)

  pub printed-done : {after : List ℕ} {n : ℕ} → good_loan memory marks ≡ true → n ≡ length (image_text memory marks)
      → length (image_text memory marks) ≤ length room
      → after ≡ overwrite room 0 (image_text memory marks)
      → leaves (Ok n) after ≡ printed memory marks room
  printed-done e l h w = rw (printed-room e h, w, overwrite-front room (image_text memory marks), l)
