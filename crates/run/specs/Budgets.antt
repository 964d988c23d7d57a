-- "budget 10,000 if none is named, up to 1,000,000" (the request for `run`); "A run takes a budget of 0..1,000,000" (01): a word that is wholly
-- a decimal number in that range.
use Rattle.std.specs.Prelude.{ℕ, Option, Some, None, cond, ◌&&◌, List, eqb, ltb, leb, length}
use Rattle.codes.specs.Limits.{largest_budget}
use Rattle.numerals.specs.Digits.{all_below, worth_after}

-- the budget that digits name behind others that are worth so much
unfoldable pub budget_after : ℕ → List ℕ → Option ℕ
budget_after worth digits =
    cond (all_below 10 digits && leb (worth_after 10 worth digits) largest_budget) (Some (worth_after 10 worth digits)) None

-- the budget that a word names: leading zeros do no harm
unfoldable pub budget_of : List ℕ → Option ℕ
budget_of word = cond (ltb 0 (length word)) (budget_after 0 word) None

-- "10,000 if none is named"
abbrev pub usual_budget : ℕ
usual_budget = 10000

-- the budget that a call asks for: how many words it has, with the program's own name, FILE and M, and the word behind these
unfoldable pub budget_asked : ℕ → List ℕ → Option ℕ
budget_asked words third = cond (eqb words 3) (Some usual_budget) (cond (eqb words 4) (budget_of third) None)
