-- Where the first number out of range stands among DATA's items (02, K4: "the number .. in 6"), over the rule of Items.antt and without a
-- reader; then the same place as a function of the tokens, which `proofs/Top.antt` shows to be it. Places are bytes of the line, from 0.
use Rattle.std.specs.Prelude.{ℕ, Bool, true, false, not, cond, ◌&&◌, List, [], ◌∷◌, ◌++◌, ◌≡◌, eqb}
use Prim.Native.Char.{code}
use Rattle.numerals.specs.Numbers.{value_of, in_range}
use Rattle.numerals.specs.declared.Numeral.{Numeral}
use Rattle.tokens.specs.Marks.{IsMark, on_mark}
use Rattle.tokens.specs.declared.Kind.{Kind}
use Rattle.tokens.specs.declared.Token.{Token}
use Rattle.values.specs.Reading.{value_by, digits_by}
use Rattle.items.specs.Items.{Item, ItemText, Items, item_in_range}

-- ---- by the rule

module _ (line : List ℕ) where
  -- of the items, from the left, the first that is out of range starts at p, a number's `-` included
  pub data FirstOut : List Token → ℕ → Type 0 where
    alone : {t : Token} {ts : List Token} {i : Item} → ItemText line (t ∷ ts) i → item_in_range i ≡ false → FirstOut (t ∷ ts) t.start
    first : {t : Token} {ts us : List Token} {i : Item} {is : List Item} (c : Token) → ItemText line (t ∷ ts) i → item_in_range i ≡ false
        → IsMark (code ",") c → Items line us is → FirstOut (t ∷ ts ++ c ∷ us) t.start
    later : {ts us : List Token} {i : Item} {p : ℕ} (c : Token) → ItemText line ts i → item_in_range i ≡ true → IsMark (code ",") c → FirstOut us p
        → FirstOut (ts ++ c ∷ us) p

-- ---- as a function of the tokens

abbrev pub is_out : Numeral → Bool
is_out n = not (in_range (value_of n))

-- whether a row begins with a number out of range: digits behind a `-`, or a number
unfoldable pub digits_out : List Token → Bool
digits_out [] = false
digits_out (t ∷ ts) = digits_by is_out false t.kind t.directly

unfoldable pub starts_out : List Token → Bool
starts_out [] = false
starts_out (t ∷ ts) = value_by false is_out (digits_out ts) false t.kind

abbrev pub is_comma : Kind → Bool
is_comma k = on_mark false (λ b. eqb b (code ",")) k

-- an item begins where `begins` says so, and behind each comma: no item has a comma inside; 0 where none is out of range
unfoldable pub out_from : Bool → List Token → ℕ
out_from begins [] = 0
out_from begins (t ∷ ts) = cond (begins && starts_out (t ∷ ts)) t.start (out_from (is_comma t.kind) ts)

abbrev pub number_out_in : List Token → ℕ
number_out_in ts = out_from true ts
