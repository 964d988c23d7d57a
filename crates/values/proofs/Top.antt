-- What this crate promises, beyond the equations at its functions: what those equations' right sides mean.
use Prim.Native.Nat.{ℕ}
use mathlib.Core.List.{List, ◌++◌}
use mathlib.Core.Path.{◌≡◌, sym, ◌∙◌}
use native.Mathlib.Omega.{arith}
use Rattle.numerals.specs.declared.Cursor.{Cursor}
use Rattle.tokens.specs.Reading.{tokens_from}
use Rattle.tokens.specs.declared.Token.{Token}
use Rattle.tokens.proofs.Places.{Within}
use Rattle.values.specs.Values.{ValueText}
use Rattle.values.specs.Reading.{value_at}
use Rattle.values.specs.declared.Value.{Value}
use Rattle.std.proofs.Common.{Some, None}
use Rattle.numerals.specs.Reading.{upto}
use Rattle.values.proofs.Finds as Finds
use Rattle.values.proofs.Finds.{StandsAt, FoundAt}
use Rattle.values.proofs.Within as Bounds
use Rattle.values.proofs.Within.{ValueWithin}
use Rattle.values.proofs.Examples as Examples
use Rattle.values.proofs.Examples.{Examples}

-- What `value` finds is the rule's value: the row from the cursor on begins with tokens that are that value, the row from the cursor
-- handed back follows, and this cursor lies further on, within the line.
pub found_is_value : (s : List ℕ) (at : ℕ) {v : Value} {c : Cursor} → value_at s at ≡ Some (upto v c) → StandsAt s at v c
found_is_value = Finds.value-stands

-- Where the row from a cursor on begins with tokens that are a value, `value` finds that value, with the cursor after it.
pub value_is_found : (s : List ℕ) (at : ℕ) {ts us : List Token} {v : Value} → tokens_from s at ≡ ts ++ us → ValueText ts v → FoundAt s at v us
value_is_found = Finds.value_found

-- So it is absent only where no value stands.
pub absent_is_none : (s : List ℕ) (at : ℕ) → value_at s at ≡ None → (ts us : List Token) {v : Value} → tokens_from s at ≡ ts ++ us
    → ValueText ts v → ⊥
absent_is_none s at e ts us r t = let z : ◌≡◌ {A = ℕ} 0 1 = cc (value_is_found s at r t).found in omega arith

-- A row has one value at most at its head.
pub one_value : {ts us ts' us' : List Token} {v v' : Value} → ts ++ us ≡ ts' ++ us' → ValueText ts v → ValueText ts' v'
    → (v ≡ v') × (ts ≡ ts') × (us ≡ us')
one_value = Finds.one_value

-- A label's place is a word's: a byte at least, within the line that its tokens stand in.
pub value-within : (n : ℕ) {ts : List Token} {v : Value} → ValueText ts v → Within n ts → ValueWithin n v
value-within = Bounds.value-within

-- The ends of a displacement's ranges, and values that are easily misread.
pub examples : Examples
examples = Examples.examples

-- Every promise of this crate is an equation with its meaning: two replies that meet it coincide.
pub coincide : {A : Type 0} {meaning r r' : A} → r ≡ meaning → r' ≡ meaning → r ≡ r'
coincide p q = p ∙ sym q
