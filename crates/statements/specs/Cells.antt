-- The cells that a line's DATA gives, as a function of its tokens; `proofs/Top.antt` shows that they are those of the items that it says.
use Rattle.std.specs.Prelude.{ℕ, Bool, true, false, cond, List, [], ◌∷◌}
use Rattle.tokens.specs.Reading.{tokens_from}
use Rattle.tokens.specs.declared.Token.{Token}
use Rattle.names.specs.Names.{word_of}
use Rattle.names.specs.declared.Word.{Word}
use Rattle.names.specs.declared.Word.TheVariants as W
use Rattle.operands.specs.Operands.{word_at}
use Rattle.items.specs.Writing.{cells_from}
use Rattle.statements.specs.Reading.{is_word, after_label}

abbrev pub is_data : Word → Bool
is_data (W.Instructs op) = false
is_data W.Org = false
is_data W.Equ = false
is_data W.Res = false
is_data W.Data = true
is_data W.End = false
is_data W.Unknown = false

module _ (line : List ℕ) where
  -- the tokens after any label; no word but DATA gives cells by its items
  unfoldable pub body_cells : List Token → List ℕ
  body_cells [] = []
  body_cells (w ∷ ts) = cond (is_word w.kind) (cond (is_data (word_of (word_at line w))) (cells_from line ts) []) []

unfoldable pub cells_in : List ℕ → List ℕ
cells_in line = body_cells line (after_label (tokens_from line 0))
