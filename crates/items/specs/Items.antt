-- "`DATA` with one or more numbers and strings by commas. .. A string takes a cell a character and a 0 cell." (01, "Rules of writing"),
-- without a reader.
use Rattle.std.specs.Prelude.{ℕ, ◌+◌, Bool, true, ◌&&◌, List, [], ◌∷◌, ◌++◌, ◌≡◌, drop}
use Prim.Native.Char.{code}
use Rattle.std.specs.Int.{w16}
use Rattle.std.proofs.Common.{of_z}
use Rattle.numerals.specs.Numbers.{value_of, in_range}
use Rattle.numerals.specs.declared.Numeral.{Numeral}
use Rattle.tokens.specs.Strings.{Characters}
use Rattle.tokens.specs.Marks.{IsMark}
use Rattle.tokens.specs.declared.Kind.TheVariants as K
use Rattle.tokens.specs.declared.Token.{Token}
use Rattle.values.specs.Values.{NumberText}

-- an item: a number, or a string by its characters
pub data Item : Type 0 where
  number : Numeral → Item
  string : List ℕ → Item

module _ (line : List ℕ) where
  pub data ItemText : List Token → Item → Type 0 where
    is_number : {ts : List Token} {n : Numeral} → NumberText ts n → ItemText ts (number n)
    is_string : {t : Token} {cs : List ℕ} → t.kind ≡ K.Text → Characters (drop (t.start + 1) line) cs (drop t.next.at line)
        → ItemText (t ∷ []) (string cs)

  pub data Items : List Token → List Item → Type 0 where
    one : {ts : List Token} {i : Item} → ItemText ts i → Items ts (i ∷ [])
    more : {ts us : List Token} {i : Item} {is : List Item} (c : Token) → ItemText ts i → IsMark (code ",") c → Items us is
        → Items (ts ++ c ∷ us) (i ∷ is)

-- "kept modulo 65536"; "a cell a character and a 0 cell"
abbrev pub item_cells : Item → List ℕ
item_cells (number n) = of_z w16 (value_of n) ∷ []
item_cells (string cs) = cs ++ (0 ∷ [])

unfoldable pub cells_of : List Item → List ℕ
cells_of [] = []
cells_of (i ∷ is) = item_cells i ++ cells_of is

-- "Range -32768..65535"
abbrev pub item_in_range : Item → Bool
item_in_range (number n) = in_range (value_of n)
item_in_range (string cs) = true

unfoldable pub all_in_range : List Item → Bool
all_in_range [] = true
all_in_range (i ∷ is) = item_in_range i && all_in_range is
