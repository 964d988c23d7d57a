-- A label's place is a word's: a byte at least, within the line.
use Prim.Native.Nat.{ℕ, ◌≤◌, ◌<◌}
use mathlib.Core.List.{List}
use mathlib.Core.Path.{subst}
use Rattle.tokens.specs.declared.Kind.{Kind}
use Rattle.tokens.specs.declared.Token.{Token}
use Rattle.tokens.proofs.Places.{EndsAt, Within}
use Rattle.values.specs.Values.{ValueText, number, label}
use Rattle.std.proofs.Common.{Option, Some, None}
use Rattle.values.specs.declared.Name.{Name}
use Rattle.values.specs.declared.Value.{Value}
use Rattle.values.specs.declared.Value.TheVariants.{Number, Label}

abbrev pub NameWithin : ℕ → Name → Type 0
NameWithin n x = (x.start < x.end) × (x.end ≤ n)

abbrev pub ValueWithin : ℕ → Value → Type 0
ValueWithin n (Number k) = Unit
ValueWithin n (Label x) = NameWithin n x

-- of a label that a line or an operand names, if it does
abbrev pub LabelWithin : ℕ → Option Name → Type 0
LabelWithin n None = Unit
LabelWithin n (Some x) = NameWithin n x

pub value-within : (n : ℕ) {ts : List Token} {v : Value} → ValueText ts v → Within n ts → ValueWithin n v
value-within n (number t) h = tt
value-within n (label {t} e) h = subst (λ (k : Kind). EndsAt k n t.start t.next.at) e h.0
