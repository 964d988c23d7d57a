-- The checks of a line, and the first check of a source that fails, as they were before K4: one check, 5, where 15 and 16 are now (01,
-- "Refusing a source"). Nothing else cites this; `proofs/Top.antt` shows that K4 changed no other answer.
use Rattle.std.specs.Prelude.{ℕ, ◌+◌, ◌≤◌, ◌<◌, false, cond, ◌||◌, ◌⊎◌, ◌≡◌, eqb, length}
use mathlib.Core.List.{List, [], ◌∷◌, Memᴰ}
use Rattle.tokens.specs.Lines.{Lines}
use Rattle.operands.specs.Checks.{fits}
use Rattle.statements.specs.Statements.{Reading, UnknownWord, NoReading}
use Rattle.statements.specs.FirstFailing.{Check, check, Pass, First}
use Rattle.statements.specs.Checks.{OfOperands, OfReading, TooDeep, NumberOut, ZeroDivisor, ResultOut}
use Rattle.codes.specs.Limits.{most_labels, longest_label}
use Rattle.sources.specs.Sources.{Said, SourceText, Before}
use Rattle.sources.specs.Placing.{Place, start, names, labelled, judged_line, after, place_of}
use Rattle.sources.specs.Order.{Refusal, ◌on◌, loan_checks, LabelOut, ReservesTooFar, PastEnd, ClaimedTwice, OfLabel, OfAct, late_checks}

-- 15 and 16 were 5; every other number was itself
abbrev pub number_before : ℕ → ℕ
number_before n = cond (eqb n 15 || eqb n 16) 5 n

abbrev pub before : Refusal → Refusal
before why = number_before why.number on why.line

-- "opcode's operand count, or kind not allowed"
abbrev pub Unfit : Reading → Type 0
Unfit = OfOperands (λ op os. fits op os ≡ false)

module _ (M k : ℕ) (p : Place) (bytes : List ℕ) where
  -- "label 10, 9; word 4; form 3; 5; 8; 6 or 7 in order of evaluation (left, right, operation); then the statement's result and label
  -- addresses ..; 11; 12"
  unfoldable pub checks_before : List (Check Refusal)
  checks_before =
      check (10 on k) (OfLabel bytes (λ w. (longest_label < length w) ⊎ (most_labels ≤ length (names p))))
      ∷ check (9 on k) (OfLabel bytes (λ w. Memᴰ w (names p)))
      ∷ check (4 on k) (UnknownWord bytes)
      ∷ check (3 on k) (NoReading bytes)
      ∷ check (5 on k) (OfReading bytes Unfit)
      ∷ check (8 on k) (OfReading bytes TooDeep)
      ∷ check (6 on k) (OfReading bytes NumberOut)
      ∷ check (7 on k) (OfReading bytes ZeroDivisor)
      ∷ check (6 on k) (OfReading bytes ResultOut)
      ∷ check (6 on k) (OfAct bytes (λ l a. LabelOut (labelled p bytes l) a))
      ∷ check (6 on k) (OfAct bytes (λ l a. ReservesTooFar a.moves p.at))
      ∷ check (11 on k) (OfAct bytes (λ l a. PastEnd M p.at a))
      ∷ check (12 on k) (OfAct bytes (λ l a. ClaimedTwice p a))
      ∷ []

unfoldable pub PassedBefore : ℕ → ℕ → Place → List Said → Type 0
PassedBefore M k p [] = Unit {0}
PassedBefore M k p (x ∷ xs) = Pass (checks_before M k p x.bytes) × PassedBefore M (k + 1) (after p (judged_line x)) xs

pub data FirstBefore (M N : ℕ) (source : List ℕ) (why : Refusal) : Type 0 where
  of_loans : First (loan_checks M N source) why → FirstBefore M N source why
  of_line : {lines rest : List (List ℕ)} {xs : List Said} {bytes : List ℕ} → Pass (loan_checks M N source) → Lines source lines
      → Before lines xs (bytes ∷ rest)
      → PassedBefore M 1 (start M) xs
      → First (checks_before M (1 + length xs) (place_of M xs) bytes) why
      → FirstBefore M N source why
  of_labels : {xs : List Said} → Pass (loan_checks M N source) → SourceText source xs → PassedBefore M 1 (start M) xs
      → First (late_checks (place_of M xs) xs) why
      → FirstBefore M N source why
