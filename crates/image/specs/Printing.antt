-- What printing answers, and what it leaves in the room (01, "The printed image": "Library printing refuses, nothing written: 1 bad
-- lengths or a mark above 2; 2 room short"; 02, K2: printing takes "marks 0..3").
use Rattle.std.specs.Prelude.{ℕ, Bool, true, cond, not, ◌&&◌, List, [], ◌∷◌, ◌++◌, eqb, leb, length, drop}
use Rattle.codes.specs.Limits.{most_cells}
use Rattle.codes.specs.Marks.{largest_mark}
use Rattle.image.specs.Image.{image_text}
use Rattle.std.specs.Prelude.{Result, Ok, Err}
use Rattle.image.specs.declared.NotPrinted.{NotPrinted}
use Rattle.image.specs.declared.NotPrinted.TheVariants.{BadLoan, RoomShort}

-- the paper's number of an answer, 0 where the image is printed
abbrev pub refusal_of : Result ℕ NotPrinted → ℕ
refusal_of (Ok n) = 0
refusal_of (Err BadLoan) = 1
refusal_of (Err RoomShort) = 2

-- the length of the text that an answer tells
abbrev pub length_of : Result ℕ NotPrinted → ℕ
length_of (Ok n) = n
length_of (Err BadLoan) = 0
length_of (Err RoomShort) = 0

-- a refusal or 0, the text's length, and the room after
pub record Leaves : Type 0 where
  pub refusal : ℕ
  pub text : ℕ
  pub room : List ℕ

abbrev pub leaves : Result ℕ NotPrinted → List ℕ → Leaves
leaves answer room = record { refusal = refusal_of answer; text = length_of answer; room = room }

-- no mark is above the largest
unfoldable pub known_marks : List ℕ → Bool
known_marks [] = true
known_marks (mark ∷ marks) = leb mark largest_mark && known_marks marks

-- a memory of M cells and a map of M known marks
unfoldable pub good_loan : List ℕ → List ℕ → Bool
good_loan memory marks = leb 1 (length memory) && (leb (length memory) most_cells && (eqb (length marks) (length memory) && known_marks marks))

-- the text at the head of the room, where the loan is good and the text fits; else the room is as it was
unfoldable pub printed : List ℕ → List ℕ → List ℕ → Leaves
printed memory marks room =
    let text : List ℕ = image_text memory marks in
    cond (not (good_loan memory marks))
    (record { refusal = 1; text = 0; room = room })
    (cond (not (leb (length text) (length room)))
    (record { refusal = 2; text = 0; room = room })
    (record { refusal = 0; text = length text; room = text ++ drop (length text) room }))
