-- Lines, without a reader: label, statement's word, and what follows it (01, "Rules of writing").
use Rattle.std.specs.Prelude.{ℕ, true, List, [], ◌∷◌, ◌≡◌}
use Prim.Native.Char.{code}
use Rattle.isa.specs.declared.Opcode.{Opcode}
use Rattle.tokens.specs.Rows.{RowOf}
use Rattle.tokens.specs.declared.Kind.TheVariants as K
use Rattle.tokens.specs.declared.Token.{Token}
use Rattle.names.specs.Names.{word_of}
use Rattle.names.specs.declared.Word.{Word}
use Rattle.names.specs.declared.Word.TheVariants as W
use Rattle.tokens.specs.Marks.{IsMark}
use Rattle.values.specs.Values.{name_at}
use Rattle.std.specs.Prelude.{Option, Some, None}
use Rattle.values.specs.declared.Name.{Name}
use Rattle.expressions.specs.Trees.{Tree, Expression}
use Rattle.operands.specs.Operands.{word_at, OperandField}
use Rattle.operands.specs.declared.Written.{Written}
use Rattle.items.specs.Items.{Item, Items}

-- what a statement says
pub data Reading : Type 0 where
  nothing : Reading
  instruction : Opcode → List Written → Reading
  org equ res : Tree → Reading
  cells : List Item → Reading  -- DATA
  end : Reading

-- ---- over a line's tokens

-- "A line's first token, if a word directly followed by `:`, is its label (one per line)": the tokens, the label, and those after it
pub data Label : List Token → Name → List Token → Type 0 where
  label : {w c : Token} {ts : List Token} → w.kind ≡ K.Word → IsMark (code ":") c → c.directly ≡ true → Label (w ∷ c ∷ ts) (name_at w) ts

module _ (line : List ℕ) where
  -- "The statement's word is the first token after any label"
  pub record StatementWord (t : Token) (w : Word) : Type 0 where
    pub word : t.kind ≡ K.Word
    pub means : word_of (word_at line t) ≡ w

  -- the tokens after any label
  pub data Body : List Token → Reading → Type 0 where
    empty : Body [] nothing
    opcode : {w : Token} {ts : List Token} {op : Opcode} {os : List Written} → StatementWord w (W.Instructs op) → OperandField line ts os
        → Body (w ∷ ts) (instruction op os)
    origin : {w : Token} {ts : List Token} {e : Tree} → StatementWord w W.Org → Expression ts e → Body (w ∷ ts) (org e)
    equals : {w : Token} {ts : List Token} {e : Tree} → StatementWord w W.Equ → Expression ts e → Body (w ∷ ts) (equ e)
    reserve : {w : Token} {ts : List Token} {e : Tree} → StatementWord w W.Res → Expression ts e → Body (w ∷ ts) (res e)
    items : {w : Token} {ts : List Token} {is : List Item} → StatementWord w W.Data → Items line ts is → Body (w ∷ ts) (cells is)
    -- "All bytes after END as a statement's word are ignored"
    ends : {w : Token} {ts : List Token} → StatementWord w W.End → Body (w ∷ ts) end

  -- a line's tokens, its label and what it says
  pub data LineText : List Token → Option Name → Reading → Type 0 where
    labelled : {ts us : List Token} {n : Name} {r : Reading} → Label ts n us → Body us r → LineText ts (Some n) r
    unlabelled : {ts : List Token} {r : Reading} → ((n : Name) (us : List Token) → Label ts n us → ⊥) → Body ts r → LineText ts None r

  -- the statement's word among a line's tokens, behind its label or first
  pub data WordIn (x : Word) : List Token → Type 0 where
    behind : {ts us : List Token} {n : Name} {w : Token} → Label ts n (w ∷ us) → StatementWord w x → WordIn x ts
    first : {us : List Token} {w : Token} → ((n : Name) (vs : List Token) → Label (w ∷ us) n vs → ⊥) → StatementWord w x → WordIn x (w ∷ us)

-- ---- over a line's bytes

-- the line has this label and says this: its bytes are a row of tokens that do
pub record Says (line : List ℕ) (l : Option Name) (r : Reading) : Type 0 where
  pub tokens : List Token
  pub row : RowOf line tokens
  pub text : LineText line tokens l r

-- the line has this label, whatever follows it
pub record Labelled (line : List ℕ) (n : Name) : Type 0 where
  pub tokens : List Token
  pub rest : List Token
  pub row : RowOf line tokens
  pub label : Label tokens n rest

-- the line's statement has this word, whatever follows it
pub record HasWord (line : List ℕ) (x : Word) : Type 0 where
  pub tokens : List Token
  pub row : RowOf line tokens
  pub word : WordIn line x tokens

-- it has a word, and none that statements have
abbrev pub UnknownWord : List ℕ → Type 0
UnknownWord line = HasWord line W.Unknown

-- the line says nothing that the rules give
abbrev pub NoReading : List ℕ → Type 0
NoReading line = (l : Option Name) (r : Reading) → Says line l r → ⊥
