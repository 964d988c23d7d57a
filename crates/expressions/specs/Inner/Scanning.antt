-- Form and depth without a tree, in constant space: the reader's stack replaced by its height. `proofs/Top.antt` shows that this
-- is the grammar's form and the tree's depth.
use Rattle.std.specs.Prelude.{ℕ, zero, suc, ◌+◌, ◌-◌, Bool, true, false, cond, List, [], ◌∷◌, leb, eqb}
use Rattle.codes.specs.Limits.{deepest}
use Rattle.tokens.specs.declared.Token.{Token}
use Rattle.expressions.specs.Reading.{kind_symbol}
use Rattle.std.specs.Prelude.{Option, Some, None}
use Rattle.expressions.specs.declared.Scan.{Scan}
use Rattle.expressions.specs.declared.Symbol.{Symbol}
use Rattle.expressions.specs.declared.Symbol.TheVariants.{Number, Sums, Products, Opens, Shuts, Other}

-- a closing parenthesis, where so many are open
abbrev pub shut_step : ℕ → Option Scan
shut_step height = cond (eqb height 0) None (Some (record { operand = false; height = (height - 1) }))

-- one token, where an operand is next or not, and so many parentheses are open
abbrev pub scan_step : Symbol → Bool → ℕ → Option Scan
scan_step (Number v) true height = Some (record { operand = false; height = height })
scan_step (Sums o) false height = Some (record { operand = true; height = height })
scan_step (Products o) false height = Some (record { operand = true; height = height })
scan_step Opens true height = Some (record { operand = true; height = (height + 1) })
scan_step Shuts false height = shut_step height
scan_step _ _ height = None

abbrev pub scan_end : Bool → ℕ → Bool
scan_end true height = false
scan_end false height = eqb height 0

abbrev pub scan_on : Option Scan → (Bool → ℕ → Bool) → Bool
scan_on (Some r) further = further r.operand r.height
scan_on None further = false

unfoldable pub right_form : List Token → Bool → ℕ → Bool
right_form [] operand height = scan_end operand height
right_form (t ∷ ts) operand height = scan_on (scan_step (kind_symbol t.kind) operand height) (λ operand height. right_form ts operand height)

-- whether some place has more parentheses inside one another than there is room for
abbrev pub room_on : Symbol → ℕ → (ℕ → Bool) → Bool
room_on (Number v) room further = further room
room_on (Sums o) room further = further room
room_on (Products o) room further = further room
room_on Opens zero further = true
room_on Opens (suc room) further = further room
room_on Shuts room further = further (suc room)
room_on Other room further = further room

unfoldable pub passes : List Token → ℕ → Bool
passes [] room = false
passes (t ∷ ts) room = room_on (kind_symbol t.kind) room (λ room. passes ts room)

-- the place of the leftmost parenthesis at which more than the deepest are open; 0 where there is none, or a wrong form before it
abbrev pub level_on : Option Scan → ℕ → (Bool → ℕ → ℕ) → ℕ
level_on (Some r) at further = cond (leb r.height deepest) (further r.operand r.height) at
level_on None at further = 0

unfoldable pub level_at : List Token → Bool → ℕ → ℕ
level_at [] operand height = 0
level_at (t ∷ ts) operand height = level_on (scan_step (kind_symbol t.kind) operand height) t.start (λ operand height. level_at ts operand height)
