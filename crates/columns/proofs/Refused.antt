-- What a refused line points at by its number is what `pointed` hands back. Top.antt restates it.
use Prim.Native.Nat.{ℕ}
use mathlib.Core.List.{List, ◌∷◌}
use mathlib.Core.Logic.{◌⊎◌, inl, inr}
use mathlib.Core.Path.{◌≡◌, refl, sym, ap, subst, ◌∙◌}
use Rattle.tokens.specs.declared.Token.{Token}
use Rattle.names.specs.declared.Word.{Word}
use Rattle.std.proofs.Common.{Option, Result, Ok, Err}
use Rattle.values.specs.declared.Name.{Name}
use Rattle.statements.specs.Statements as S
use Rattle.statements.specs.Statements.{Labelled, Says, LineText, Body, Reading, nothing, StatementWord}
use Rattle.statements.specs.FirstFailing.{Pass, First}
use Rattle.statements.specs.Checks.{failures}
use Rattle.statements.specs.Judging.{number_of}
use Rattle.statements.specs.Reading.{line_read}
use Rattle.statements.specs.declared.Failure.{Failure}
use Rattle.statements.specs.declared.Failure.TheVariants.{UnknownWord, WrongForm, WrongCount, WrongKind, TooDeep, OutOfRange, ByZero, ResultOut}
use Rattle.statements.specs.declared.Statement.{Statement as Said}
use Rattle.statements.proofs.FirstFails.{pass-none}
use Rattle.statements.proofs.Top.{fails-exactly}
use Rattle.columns.specs.Points.{AfterLabel, labelled, unlabelled, Statement, PointsIn, label, own, statement, operand_of}
use Rattle.columns.specs.Columns.{word_column, column_of, pointed_at, again_by, read_again, pointed}
use Rattle.columns.specs.declared.Pointed.{Pointed}
use Rattle.columns.proofs.Found.{of_label, of_word}
use Rattle.columns.proofs.Exactly.{one, some, label-column, word-column}

module _ (line : List ℕ) where
  -- ---- by the number

  -- none of the numbers of a line's own checks is a label's or a word's
  own_read : (why : Failure) → pointed line (number_of why) ≡ read_again line
  unfolding pointed
  own_read UnknownWord = refl
  own_read WrongForm = refl
  own_read WrongCount = refl
  own_read (WrongKind i) = refl
  own_read TooDeep = refl
  own_read OutOfRange = refl
  own_read ByZero = refl
  own_read ResultOut = refl

  own-pointed : {why : Failure} → (line_read line).statement ≡ Err why → pointed line (number_of why) ≡ pointed_at (column_of line why) (operand_of why)
  unfolding read_again
  own-pointed {why} e = own_read why ∙ ap (again_by line) e

  passes : Pass (failures line) → (s : Said) × ((line_read line).statement ≡ Ok s)
  passes p = go (line_read line).statement refl
    where
      go : (r : Result Said Failure) → (line_read line).statement ≡ r → (s : Said) × ((line_read line).statement ≡ Ok s)
      go (Ok s) e = (s, e)
      go (Err why) e = absurd (pass-none (failures line) why p ((fails-exactly line why).0 e))

  statement-pointed : {number : ℕ} → (number ≡ 6) ⊎ ((number ≡ 11) ⊎ (number ≡ 12)) → Pass (failures line)
      → pointed line number ≡ pointed_at (word_column line) 0
  unfolding read_again
  statement-pointed (inl six) p = ap (pointed line) six ∙ own_read OutOfRange ∙ ap (again_by line) (passes p).1
  statement-pointed (inr w) p = of_word line w

  -- ---- found, and some

  pub points_found : {number c i : ℕ} → PointsIn line number c i → pointed line number ≡ pointed_at c i
  points_found (label w l) = of_label line w ∙ ap (λ (k : ℕ). pointed_at k 0) (label-column line l)
  points_found (own {why} f p) =
      let e = (fails-exactly line why).1 f in
      own-pointed e ∙ ap (λ (k : ℕ). pointed_at k (operand_of why)) (one line p e)
  points_found (statement w p s) = statement-pointed w p ∙ ap (λ (k : ℕ). pointed_at k 0) (word-column line s)

  abbrev PointsThere : ℕ → Type 0
  PointsThere number = PointsIn line number (pointed line number).column.0 (pointed line number).place

  there : {number c i : ℕ} → PointsIn line number c i → PointsThere number
  there {number} x = subst (λ (p : Pointed). PointsIn line number p.column.0 p.place) (sym (points_found x)) x

  pub label_points : {number : ℕ} {n : Name} → (number ≡ 9) ⊎ (number ≡ 10) → Labelled line n → PointsThere number
  label_points w l = there (label w l)

  pub own_points : (why : Failure) → First (failures line) why → PointsThere (number_of why)
  own_points why f = there (own f (some line ((fails-exactly line why).1 f)).1)

  pub statement_points : {number : ℕ} {w : Token} {x : Word} {ts : List Token} → (number ≡ 6) ⊎ ((number ≡ 11) ⊎ (number ≡ 12))
      → Pass (failures line) → Statement line w x ts → PointsThere number
  statement_points w p s = there (statement w p s)

  -- ---- the statement of a line that says something

  abbrev SomeStatement : Type 0
  SomeStatement = (w : Token) × (x : Word) × (ts : List Token) × Statement line w x ts

  pub statement_of : {l : Option Name} {r : Reading} → Says line l r → (r ≡ nothing → ⊥) → SomeStatement
  statement_of s n = by_label s.text n
    where
      begins : {w : Token} {x : Word} {ts : List Token} → AfterLabel s.tokens (w ∷ ts) → StatementWord line w x → SomeStatement
      begins a k = (_, _, _, record { tokens = s.tokens; row = s.row; after = a; word = k })

      by-word : {us : List Token} {r : Reading} → AfterLabel s.tokens us → Body line us r → (r ≡ nothing → ⊥) → SomeStatement
      by-word a S.empty n = absurd (n refl)
      by-word a (S.opcode k o) n = begins a k
      by-word a (S.origin k o) n = begins a k
      by-word a (S.equals k o) n = begins a k
      by-word a (S.reserve k o) n = begins a k
      by-word a (S.items k o) n = begins a k
      by-word a (S.ends k) n = begins a k

      by_label : {l : Option Name} {r : Reading} → LineText line s.tokens l r → (r ≡ nothing → ⊥) → SomeStatement
      by_label (S.labelled l b) n = by-word (labelled l) b n
      by_label (S.unlabelled none b) n = by-word (unlabelled none) b n
