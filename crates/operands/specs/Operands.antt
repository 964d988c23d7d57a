-- Operands over tokens, in the paper's shapes, without a reader (01, "Rules of writing": "Operand (v is a number or label): `#v`
-- immediate, `.reg`, `/v` memory, `[.reg]` indirect, `#v[.IX]`, `#v[.IY]`, `#v[.SP]`, `$v` relative. .. Operands are parted by commas.").
use Rattle.std.specs.Prelude.{ℕ, List, [], ◌∷◌, ◌++◌, ◌≡◌, T}
use Prim.Native.Char.{code}
use Rattle.std.proofs.Math.Seq.{slice}
use Rattle.codes.specs.Registers.{IX, IY, SP, is_register}
use Rattle.names.specs.Names.{register_code}
use Rattle.tokens.specs.Marks.{IsMark}
use Rattle.tokens.specs.declared.Kind.TheVariants as K
use Rattle.tokens.specs.declared.Token.{Token}
use Rattle.values.specs.Values.{ValueText}
use Rattle.values.specs.declared.Value.{Value}
use Rattle.operands.specs.declared.Written.{Written}
use Rattle.operands.specs.declared.Written.TheVariants.{Immediate, Register, Memory, Indirect, IndexedX, IndexedY, IndexedSp, Relative}

-- the bytes of a word of the line
abbrev pub word_at : List ℕ → Token → List ℕ
word_at line t = slice t.start t.next.at line

-- "`#v[.IX]`, `#v[.IY]`, `#v[.SP]`": no other register indexes
pub data Index : ℕ → Value → Written → Type 0 where
  by_IX : {v : Value} → Index IX v (IndexedX v)
  by_IY : {v : Value} → Index IY v (IndexedY v)
  by_SP : {v : Value} → Index SP v (IndexedSp v)

module _ (line : List ℕ) where
  -- a word that names a register, with its code
  pub record RegisterName (t : Token) (r : ℕ) : Type 0 where
    pub word : t.kind ≡ K.Word
    pub names : register_code (word_at line t) ≡ r
    pub known : T (is_register r)

  pub data OperandText : List Token → Written → Type 0 where
    immediate : {m : Token} {us : List Token} {v : Value} → IsMark (code "#") m → ValueText us v → OperandText (m ∷ us) (Immediate v)
    register : {d t : Token} {r : ℕ} → IsMark (code ".") d → RegisterName t r → OperandText (d ∷ t ∷ []) (Register r)
    memory : {m : Token} {us : List Token} {v : Value} → IsMark (code "/") m → ValueText us v → OperandText (m ∷ us) (Memory v)
    indirect : {a d t z : Token} {r : ℕ} → IsMark (code "[") a → IsMark (code ".") d → RegisterName t r → IsMark (code "]") z
        → OperandText (a ∷ d ∷ t ∷ z ∷ []) (Indirect r)
    indexed : {us : List Token} {v : Value} {r : ℕ} {o : Written} (m a d t z : Token) → IsMark (code "#") m → ValueText us v → IsMark (code "[") a
        → IsMark (code ".") d → RegisterName t r → Index r v o → IsMark (code "]") z → OperandText (m ∷ us ++ a ∷ d ∷ t ∷ z ∷ []) o
    relative : {m : Token} {us : List Token} {v : Value} → IsMark (code "$") m → ValueText us v → OperandText (m ∷ us) (Relative v)

  -- "Operands are parted by commas"
  pub data Operands : List Token → List Written → Type 0 where
    one : {ts : List Token} {o : Written} → OperandText ts o → Operands ts (o ∷ [])
    more : {ts us : List Token} {o : Written} {os : List Written} (c : Token) → OperandText ts o → IsMark (code ",") c → Operands us os
        → Operands (ts ++ c ∷ us) (o ∷ os)

  -- what follows an opcode: no operands, or some, any number of them
  pub data OperandField : List Token → List Written → Type 0 where
    none : OperandField [] []
    some : {ts : List Token} {os : List Written} → Operands ts os → OperandField ts os
