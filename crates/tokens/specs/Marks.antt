-- "Tokens are words, numbers, strings and single marks" (01, "Rules of writing").
use Rattle.std.specs.Prelude.{ℕ, cond, ◌≡◌, eqb}
use Rattle.numerals.specs.declared.Cursor.{Cursor}
use Rattle.tokens.specs.declared.Kind.{Kind}
use Rattle.tokens.specs.declared.Kind.TheVariants.{End, Stray, Word, Number, Text, Mark}
use Rattle.std.specs.Prelude.{Option, Some, None}
use Rattle.numerals.specs.Reading.{upto}
use Rattle.numerals.specs.declared.Read.{Read}
use Rattle.tokens.specs.declared.Token.{Token}

-- a token that is this single mark
abbrev pub IsMark : ℕ → Token → Type 0
IsMark b t = t.kind ≡ Mark b

-- what a single mark leads to; any other token leads to `other`
abbrev pub on_mark : {S : Type 0} → S → (ℕ → S) → Kind → S
on_mark other f End = other
on_mark other f Stray = other
on_mark other f Word = other
on_mark other f (Number v k) = other
on_mark other f Text = other
on_mark other f (Mark b) = f b

-- what this mark leads to; any other leads to `other`
abbrev pub only : {S : Type 0} → S → ℕ → S → ℕ → S
only other x this b = cond (eqb b x) this other

-- the mark that a token is, with the cursor after it; absent where the token is no mark
abbrev pub mark_by : Kind → Cursor → Option (Read ℕ)
mark_by k next = on_mark None (λ b. (Some (upto b next))) k

abbrev pub mark_of : Token → Option (Read ℕ)
mark_of t = mark_by t.kind t.next
