-- One turn of the reader's loop: the item at a place, and the verdict on what is left; and what one turn of the writer's loop writes.
use Rattle.std.specs.Prelude.{ℕ, ◌+◌, Bool, false, cond, ◌&&◌, List, [], length}
use Rattle.numerals.specs.declared.Cursor.{Cursor}
use Rattle.tokens.specs.Reading.{token_at}
use Rattle.tokens.specs.declared.Kind.{Kind}
use Rattle.tokens.specs.declared.Token.{Token}
use Rattle.values.specs.Reading.{value_at}
use Rattle.values.specs.declared.Value.{Value}
use Rattle.values.specs.declared.Value.TheVariants.{Number, Label}
use Rattle.std.specs.Prelude.{Option, Some, None, Result, Ok, Err}
use Rattle.numerals.specs.Reading.{upto}
use Rattle.numerals.specs.declared.Read.{Read}
use Rattle.items.specs.declared.Measure.{Measure}
use Rattle.items.specs.declared.ItemsFault.{ItemsFault}
use Rattle.items.specs.declared.ItemsFault.TheVariants.{WrongForm, OutOfRange}
use Rattle.items.specs.Items.{Item, number, item_cells, item_in_range, cells_of, all_in_range}
use Rattle.items.specs.Reading.{on_text, string_of, RowRead, reads, wrong}

-- an item with the cursor after it, or none
pub data Standing : Type 0 where
  stands : Item → Cursor → Standing
  none : Standing

abbrev pub string_by : List ℕ → Kind → Token → Standing
string_by s k t = on_text none (stands (string_of s t) t.next) k

abbrev pub string_at : List ℕ → Token → Standing
string_at s t = string_by s t.kind t

-- a number is an item, a label is none
abbrev pub number_item : Value → Cursor → Standing
number_item (Number n) c = stands (number n) c
number_item (Label w) c = none

-- a value that is a number, or a string
abbrev pub item_by : List ℕ → ℕ → Option (Read Value) → Standing
item_by s at (Some r) = number_item r.value r.next
item_by s at None = string_at s (token_at s at)

unfoldable pub item_at : List ℕ → ℕ → Standing
item_at s at = item_by s at (value_at s at)

-- what the code keeps of an item
abbrev pub measured : Standing → Option (Read Measure)
measured (stands i c) = Some (upto (record { cells = (length (item_cells i)); fits = (item_in_range i) }) c)
measured none = None

-- the verdict on what is left, with the cells and the ranges of what is read
abbrev pub verdict : ℕ → Bool → RowRead → Result ℕ ItemsFault
verdict n fit (reads is) = cond (fit && all_in_range is) (Ok (n + length (cells_of is))) (Err OutOfRange)
verdict n fit wrong = Err WrongForm

-- ---- what the code of one turn writes

-- the form and every range are right
abbrev pub accepted : RowRead → Bool
accepted (reads is) = all_in_range is
accepted wrong = false

-- the cells of the item at a place; none where there is no item, or its number is out of range
abbrev pub cells_at : Standing → List ℕ
cells_at (stands i c) = cond (item_in_range i) (item_cells i) []
cells_at none = []
