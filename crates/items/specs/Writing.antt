-- The cells that DATA's items give, in the order of the items.
use Rattle.std.specs.Prelude.{ℕ, cond, List, []}
use Rattle.tokens.specs.declared.Token.{Token}
use Rattle.items.specs.Items.{cells_of, all_in_range}
use Rattle.items.specs.Reading.{item, RowRead, reads, wrong, walk}

-- the cells of the items that follow DATA; none where these are refused
abbrev pub accepted_cells : RowRead → List ℕ
accepted_cells (reads is) = cond (all_in_range is) (cells_of is) []
accepted_cells wrong = []

unfoldable pub cells_from : List ℕ → List Token → List ℕ
cells_from line ts = accepted_cells (walk line item ts)
