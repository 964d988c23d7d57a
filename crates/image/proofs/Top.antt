-- What the crate promises, for a reader. `print` answers and leaves in the room exactly what `printed` of specs/Printing.antt says; here
-- stands what that says of loans, room and text.
use mathlib.Core.Path.{◌≡◌, refl, sym, ap, ◌∙◌}
use mathlib.Core.Bool.{Bool, true, false, cond}
use mathlib.Core.Logic.{◌↔◌}
use mathlib.Core.List.{List, [], ◌∷◌, ◌++◌, Memᴰ}
use Prim.Native.Nat.{ℕ, suc, ◌+◌, ◌≤◌, ◌<◌}
use native.Mathlib.Omega.{arith}
use lib.Dec.{eqb}
use lib.ListN.{length, get_or, drop}
use Rattle.codes.specs.Marks.{reserved_mark, largest_mark}
use Rattle.numerals.specs.Bytes.{bytes}
use Rattle.numerals.specs.Writing.{DecimalOf, decimal_before, decimal}
use Rattle.numerals.proofs.Top as decimals
use Rattle.image.specs.Image.{cell_line, cell_lines, claimed, image_text}
use Rattle.image.specs.Printing.{good_loan, refusal_of, length_of, Leaves, leaves, printed}
use Rattle.std.proofs.Common.{Result, Ok, Err}
use Rattle.image.specs.declared.NotPrinted.{NotPrinted}
use Rattle.image.specs.declared.NotPrinted.TheVariants.{BadLoan, RoomShort}
use Rattle.image.proofs.Texts as texts
use Rattle.image.proofs.CellLines.{LineOf}
use Rattle.image.proofs.CellLines as CellLines
use Rattle.image.proofs.Outcomes as outcomes
use Rattle.image.proofs.Examples.{Examples}
use Rattle.image.proofs.Examples as worked

-- ---- the three answers

-- a memory of 1 to 65,536 cells, and a map of as many marks, each 0 to 3
pub record Loan (memory marks : List ℕ) : Type 0 where
  pub some : 1 ≤ length memory
  pub not_too_many : length memory ≤ 65536
  pub as_many : length marks ≡ length memory
  pub known : (i : ℕ) → i < length marks → get_or marks i 0 ≤ largest_mark

pub good-exactly : (memory marks : List ℕ) → (good_loan memory marks ≡ true) ↔ Loan memory marks
good-exactly memory marks = (there, back)
  where
    there : good_loan memory marks ≡ true → Loan memory marks
    there e =
        let g = outcomes.loan-good memory marks e in
        record { some = g.2; not_too_many = g.1; as_many = g.0; known = texts.known-all marks g.3 }

    back : Loan memory marks → good_loan memory marks ≡ true
    back l = sym (outcomes.loan-marks memory marks l.some l.not_too_many l.as_many) ∙ texts.all_known marks l.known

module _ (memory marks room : List ℕ) where
  -- 1: "bad lengths or a mark above 2" (01), now above 3 (02, K2), whatever the room, which is as it was.
  pub bad-loan : (Loan memory marks → ⊥) → printed memory marks room ≡ leaves (Err BadLoan) room
  bad-loan n = go (good_loan memory marks) refl
    where
      go : (b : Bool) → good_loan memory marks ≡ b → printed memory marks room ≡ leaves (Err BadLoan) room
      go true e = absurd (n ((good-exactly memory marks).0 e))
      go false e = sym (outcomes.printed-bad memory marks room e)

  module _ (good : Loan memory marks) where
    -- "2 room short": the room is as it was.
    pub room-short : length room < length (image_text memory marks) → printed memory marks room ≡ leaves (Err RoomShort) room
    room-short h = sym (outcomes.printed-short memory marks room ((good-exactly memory marks).1 good) h)

    -- Room equal to the text's length is enough: the text stands at its head, and the rest is as it was.
    pub prints : length (image_text memory marks) ≤ length room
        → ((printed memory marks room).refusal ≡ 0)
        × ((printed memory marks room).text ≡ length (image_text memory marks))
        × ((printed memory marks room).room ≡ image_text memory marks ++ drop (length (image_text memory marks)) room)
    prints h =
        let e = outcomes.printed-room memory marks room ((good-exactly memory marks).1 good) h in
        rw e (refl, refl, refl)

-- ---- the text

-- A line stands among the cell lines exactly where it is that of a claimed cell.
pub lines-exactly : (memory marks line : List ℕ) → Memᴰ line (cell_lines memory 0 marks) ↔ LineOf memory 0 marks line
lines-exactly memory marks line = (CellLines.line_is memory 0 marks line, CellLines.line-has memory 0 marks line)

-- A reserved cell is "printed as `cell=ADDR,reserved,0`" (02, K2), whatever it holds.
pub reserved-line : (at value : ℕ) → cell_line at reserved_mark value ≡ bytes "cell=" ++ (decimal at ++ bytes ",reserved,0")
unfolding cell_line decimal decimal_before
reserved-line at value = refl

-- They ascend: the lines of the first cells stand before those of the cells after them.
pub lines_ascend : (memory a b : List ℕ) → cell_lines memory 0 (a ++ b) ≡ cell_lines memory 0 a ++ cell_lines memory (0 + length a) b
lines_ascend memory a b = CellLines.lines_append memory 0 a b

-- `claimed` is how many cell lines there are.
pub as_many_lines : (memory : List ℕ) (at : ℕ) (marks : List ℕ) → length (cell_lines memory at marks) ≡ claimed marks
unfolding cell_lines claimed
as_many_lines memory at [] = refl
as_many_lines memory at (mark ∷ marks) = go (eqb mark 0) (as_many_lines memory (at + 1) marks)
  where
    rest : List (List ℕ)
    rest = cell_lines memory (at + 1) marks

    go : (b : Bool) → length rest ≡ claimed marks
        → length (cond b rest (cell_line at mark (get_or memory at 0) ∷ rest)) ≡ cond b (claimed marks) (suc (claimed marks))
    go true e = e
    go false e = ap suc e

-- Each number is the only decimal of its value: digits, no zero in front.
pub number-right : (n : ℕ) → n < 10000000000 → DecimalOf n (decimal n)
number-right = decimals.decimal-right

-- ---- examples, and one reply

pub examples : Examples
examples = worked.examples

-- "That two replies meeting it coincide".
pub answers_coincide : (r s : Result ℕ NotPrinted) {meaning : Leaves} {xs ys : List ℕ} → leaves r xs ≡ meaning → leaves s ys ≡ meaning → (r ≡ s) × (xs ≡ ys)
answers_coincide r s p q =
    (same r s (ap (λ (a : Leaves). a.refusal) (p ∙ sym q)) (ap (λ (a : Leaves). a.text) (p ∙ sym q)), ap (λ (a : Leaves). a.room) (p ∙ sym q))
  where
    same : (r s : Result ℕ NotPrinted) → refusal_of r ≡ refusal_of s → length_of r ≡ length_of s → r ≡ s
    same (Ok n) (Ok m) e f = ap Ok f
    same (Ok n) (Err BadLoan) e f = absurd (omega (arith, e))
    same (Ok n) (Err RoomShort) e f = absurd (omega (arith, e))
    same (Err BadLoan) (Ok m) e f = absurd (omega (arith, e))
    same (Err BadLoan) (Err BadLoan) e f = refl
    same (Err BadLoan) (Err RoomShort) e f = absurd (omega (arith, e))
    same (Err RoomShort) (Ok m) e f = absurd (omega (arith, e))
    same (Err RoomShort) (Err BadLoan) e f = absurd (omega (arith, e))
    same (Err RoomShort) (Err RoomShort) e f = refl
