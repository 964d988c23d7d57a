-- "Operands are parted by commas"; "`DATA` with one or more numbers and strings by commas" (01, "Rules of writing"): what may follow one
-- of either.
use Rattle.std.specs.Prelude.{ℕ}
use Prim.Native.Char.{code}
use Rattle.numerals.specs.declared.Cursor.{Cursor}
use Rattle.tokens.specs.Marks.{on_mark, only}
use Rattle.tokens.specs.declared.Follows.{Follows}
use Rattle.tokens.specs.declared.Follows.TheVariants.{Comma, Over, Neither}
use Rattle.tokens.specs.declared.Kind.{Kind}
use Rattle.tokens.specs.declared.Kind.TheVariants.{End, Stray, Word, Number, Text, Mark}
use Rattle.tokens.specs.declared.Token.{Token}

-- what a comma leads to; any other mark leads to `other`
abbrev pub at_comma : {S : Type 0} → S → S → ℕ → S
at_comma other comma = only other (code ",") comma

-- what a comma leads to after one that is finished; any other token leads to `other`
abbrev pub on_comma : {S : Type 0} → S → S → Kind → S
on_comma other comma = on_mark other (at_comma other comma)

abbrev pub follows_by : Kind → Cursor → Follows
follows_by End next = Over
follows_by Stray next = Neither
follows_by Word next = Neither
follows_by (Number v k) next = Neither
follows_by Text next = Neither
follows_by (Mark b) next = at_comma Neither (Comma next) b

abbrev pub follows_of : Token → Follows
follows_of t = follows_by t.kind t.next
