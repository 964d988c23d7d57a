-- Each operand as a listing writes it is an operand of the rules of writing.
use Prim.Native.Nat.{ℕ, ◌+◌, ◌<◌}
use Prim.Native.Char.{code}
use mathlib.Core.Bool.{Bool, true, false≢true}
use mathlib.Core.List.{List, ◌∷◌, ◌++◌, append_assoc}
use mathlib.Core.Path.{◌≡◌, refl, sym, ap, subst, ◌∙◌}
use native.Mathlib.Decide.{dec_lt}
use native.Mathlib.Omega.{arith}
use lib.Dec.{T, ltb→lt}
use lib.ListN.{length}
use borrow.Author.Tests.{lt-ltb, le-ltb}
use Rattle.codes.specs.Registers.{IX, IY, SP, is_register}
use Rattle.isa.specs.Inner.Words as isa
use Rattle.isa.specs.Operands.{register_there}
use Rattle.isa.specs.declared.Operand.{Operand}
use Rattle.isa.specs.declared.Operand.TheVariants as O
use Rattle.tokens.specs.Bytes.{is_mark, is_blank}
use Rattle.tokens.specs.Rows.{token}
use Rattle.tokens.specs.declared.Kind.TheVariants as K
use Rattle.tokens.specs.declared.Token.{Token}
use Rattle.names.specs.Names.{register_code}
use Rattle.names.proofs.Own.{register_is_found}
use Rattle.values.specs.Values.{plain, minus, digits, ValueText}
use Rattle.values.specs.Values as Values
use Rattle.values.specs.declared.Value.TheVariants.{Number}
use Rattle.values.proofs.Displaced.{signed_of}
use Rattle.operands.specs.Operands as G
use Rattle.operands.specs.Operands.{RegisterName, OperandText, Index, by_IX, by_IY, by_SP}
use Rattle.operands.specs.declared.Written.{Written}
use Rattle.operands.proofs.Back.{written_of}
use Rattle.listing.specs.Pieces.{Piece, word, mark, text_of}
use Rattle.listing.specs.Lines.{register_name, signed, in_brackets, operand_pieces, present}
use Rattle.recovered.proofs.Pieces.{row_from, parted, Fine, T_of, row_append, behind, Stand, next-piece, next_pieces, word-there}
use Rattle.recovered.proofs.Names.{register_is_word}

-- ---- the pieces are fine

-- a displacement, a register, a register in brackets, a displacement before it
fine-signed : (d : ℕ) (qs : List Piece) → d < 65536 → T (parted qs) → Fine qs → Fine (signed d ++ qs)
unfolding Fine is_mark is_blank
fine-signed d qs h t f =
    elim (dec_lt d 32768) [
      | yes l ↦ rw (lt-ltb d 32768 l) (omega arith, t, f)
      | no g ↦ rw (le-ltb d 32768 (omega arith)) (tt, (omega arith, t, f))
    ]

fine-register : (r : ℕ) (qs : List Piece) → T (is_register r) → T (parted qs) → Fine qs → Fine (word (register_name r) ∷ qs)
unfolding Fine
fine-register r qs k t f = let n = register_is_word r (ltb→lt r 16 k) in (n.begins, n.all, t, f)

fine_brackets : (r : ℕ) (qs : List Piece) → T (is_register r) → Fine qs → Fine (in_brackets r ++ qs)
unfolding Fine is_mark is_blank
fine_brackets r qs k f = (tt, (tt, fine-register r (mark (code "]") ∷ qs) k tt (tt, f)))

fine-indexed : (r d : ℕ) (qs : List Piece) → T (is_register r) → d < 65536 → Fine qs → Fine (signed d ++ in_brackets r ++ qs)
fine-indexed r d qs k h f =
    subst Fine (sym (append_assoc (signed d) (in_brackets r) qs)) (fine-signed d (in_brackets r ++ qs) h tt (fine_brackets r qs k f))

-- an operand of an allowed instruction whose word is a cell
pub fine-operand : (o : Operand) (qs : List Piece) → register_there o ≡ true → isa.word_of o < 65536 → T (parted qs) → Fine qs
    → Fine (operand_pieces o ++ qs)
unfolding Fine is_mark is_blank
fine-operand O.Absent qs k h t f = f
fine-operand (O.Immediate v) qs k h t f = (tt, (omega arith, t, f))
fine-operand (O.Register r) qs k h t f = (tt, fine-register r qs (T_of k) t f)
fine-operand (O.Memory a) qs k h t f = (tt, (omega arith, t, f))
fine-operand (O.Indirect r) qs k h t f = fine_brackets r qs (T_of k) f
fine-operand (O.IndexedX d) qs k h t f = (tt, fine-indexed IX d qs tt h f)
fine-operand (O.IndexedY d) qs k h t f = (tt, fine-indexed IY d qs tt h f)
fine-operand (O.IndexedSp d) qs k h t f = (tt, fine-indexed SP d qs tt h f)
fine-operand (O.Relative d) qs k h t f = (tt, fine-signed d qs h t f)

-- ---- the tokens are the operand

-- a displacement is a number of the rules
value-signed : (d at : ℕ) (dir : Bool) → ValueText (row_from at dir (signed d)) (Number (signed_of d))
unfolding row_from signed_of
value-signed d at dir =
    elim (dec_lt d 32768) [
      | yes l ↦ rw (lt-ltb d 32768 l) (Values.number (plain refl))
      | no g ↦ rw (le-ltb d 32768 (omega arith)) (Values.number (minus refl (digits refl refl)))
    ]

module _ (line : List ℕ) where
  -- a register's name names it
  names-register : {at : ℕ} {rest : List ℕ} {qs : List Piece} (r : ℕ) (dir : Bool) → T (is_register r)
      → Stand line at (word (register_name r) ∷ qs) rest
      → RegisterName line (token K.Word at dir (at + length (register_name r))) r
  names-register r dir k s =
      let h = ltb→lt r 16 k in
      record { word = refl; names = ap register_code (word-there (register_is_word r h).begins s) ∙ register_is_found r h; known = k }

  -- `#v[.IX]`, `#v[.IY]`, `#v[.SP]`
  indexed-text : {at : ℕ} {rest : List ℕ} {o : Written} (r d : ℕ) (dir : Bool) → T (is_register r) → Index r (Number (signed_of d)) o
      → Stand line at (mark (code "#") ∷ signed d ++ in_brackets r) rest
      → OperandText line (row_from at dir (mark (code "#") ∷ signed d ++ in_brackets r)) o
  unfolding row_from
  indexed-text {at} {rest} {o} r d dir k i s =
      let s₁ = next_pieces (signed d) (in_brackets r) (next-piece s) in
      let b = at + 1 + length (text_of (signed d)) in
      let n = length (register_name r) in
      let e = row_append (signed d) (in_brackets r) (at + 1) true in
      let z = behind true (signed d) in
      subst (λ (ts : List Token). OperandText line (token (K.Mark (code "#")) at dir (at + 1) ∷ ts) o) (sym e)
      (G.indexed (token (K.Mark (code "#")) at dir (at + 1)) (token (K.Mark (code "[")) b z (b + 1)) (token (K.Mark (code ".")) (b + 1) true (b + 1 + 1))
      (token K.Word (b + 1 + 1) true (b + 1 + 1 + n)) (token (K.Mark (code "]")) (b + 1 + 1 + n) true (b + 1 + 1 + n + 1))
      refl (value-signed d (at + 1) true) refl refl (names-register r true k (next-piece (next-piece s₁))) i refl)

  -- each shape that is written is that operand's
  pub operand-text : {at : ℕ} {rest : List ℕ} (o : Operand) (dir : Bool) → present o ≡ true → register_there o ≡ true
      → Stand line at (operand_pieces o) rest
      → OperandText line (row_from at dir (operand_pieces o)) (written_of o)
  unfolding row_from written_of
  operand-text O.Absent dir p k s = absurd (false≢true p)
  operand-text (O.Immediate v) dir p k s = G.immediate refl (Values.number (plain refl))
  operand-text (O.Register r) dir p k s = G.register refl (names-register r true (T_of k) (next-piece s))
  operand-text (O.Memory a) dir p k s = G.memory refl (Values.number (plain refl))
  operand-text (O.Indirect r) dir p k s = G.indirect refl refl (names-register r true (T_of k) (next-piece (next-piece s))) refl
  operand-text (O.IndexedX d) dir p k s = indexed-text IX d dir tt by_IX s
  operand-text (O.IndexedY d) dir p k s = indexed-text IY d dir tt by_IY s
  operand-text (O.IndexedSp d) dir p k s = indexed-text SP d dir tt by_SP s
  operand-text {at} (O.Relative d) dir p k s = G.relative refl (value-signed d (at + 1) true)
