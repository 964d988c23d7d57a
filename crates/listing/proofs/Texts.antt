-- The text of operands and lines, and how long it is at most.
use Prim.Native.Nat.{ℕ, suc, ◌+◌, ◌-◌, ◌≤◌}
use Prim.Native.Char.{code}
use mathlib.Core.Bool.{Bool, true, false, cond}
use mathlib.Core.List.{List, [], ◌∷◌, ◌++◌, append_assoc, append-nil}
use mathlib.Core.Path.{◌≡◌, refl, sym, ap, ◌∙◌}
use native.Mathlib.Decide.{dec_lt}
use native.Mathlib.Omega.{arith}
use lib.Dec.{ltb, eqb}
use lib.ListN.{length, length-append}
use borrow.Author.Tests.{lt-ltb, le-ltb, eq-eqb, ne_eqb, eqb-true, eqb-false}
use Rattle.codes.specs.Registers.{IX, IY, SP}
use Rattle.numerals.specs.Bytes.{bytes, LF}
use Rattle.numerals.specs.Writing.{decimal, signed_decimal}
use Rattle.numerals.proofs.Top.{decimal-length}
use Rattle.isa.specs.Opcodes.{table}
use Rattle.isa.specs.declared.Address.{Address}
use Rattle.isa.specs.declared.Instruction.{Instruction}
use Rattle.isa.specs.declared.Operand.{Operand}
use Rattle.isa.specs.declared.Operand.TheVariants.{Absent, Immediate, Register, Memory, Indirect, IndexedX, IndexedY, IndexedSp, Relative}
use Rattle.listing.specs.Pieces.{Piece, mark, piece_text, text_of}
use Rattle.listing.specs.Lines.{register_name, signed, in_brackets, register_pieces, indexed_pieces, operand_pieces, present, field_pieces, line_of, text_of_lines}
use Rattle.listing.specs.Inner.Begins.{line_text, longest_lines}
use Rattle.listing.specs.declared.Entry.{Entry}
use Rattle.listing.specs.declared.Entry.TheVariants.{Origin, Instructs, Holds, Reserves, Finish}
use Rattle.listing.proofs.Letters.{opcode-spelled, register-spelled}

-- pieces side by side
pub text_append : (ps qs : List Piece) → text_of (ps ++ qs) ≡ text_of ps ++ text_of qs
unfolding text_of
text_append [] qs = refl
text_append (p ∷ ps) qs = ap (λ (l : List ℕ). piece_text p ++ l) (text_append ps qs) ∙ sym (append_assoc (piece_text p) (text_of ps) (text_of qs))

-- ---- operands

abbrev pub operand_text : Operand → List ℕ
operand_text o = text_of (operand_pieces o)

-- a displacement is written as WRINT writes a cell
pub signed-text : (d : ℕ) → text_of (signed d) ≡ signed_decimal d
unfolding text_of signed_decimal
signed-text d =
    elim (dec_lt d 32768) [
      | yes l ↦ rw (lt-ltb d 32768 l) (append-nil (decimal d))
      | no g ↦ rw (le-ltb d 32768 (omega arith)) (ap (λ (l : List ℕ). code "-" ∷ l) (append-nil (decimal (65536 - d))))
    ]

-- a mark and a number behind it
pub immediate-text : (v : ℕ) → code "#" ∷ decimal v ≡ operand_text (Immediate v)
unfolding text_of
immediate-text v = ap (λ (l : List ℕ). code "#" ∷ l) (sym (append-nil (decimal v)))

pub memory-text : (a : ℕ) → code "/" ∷ decimal a ≡ operand_text (Memory a)
unfolding text_of
memory-text a = ap (λ (l : List ℕ). code "/" ∷ l) (sym (append-nil (decimal a)))

pub relative-text : (d : ℕ) → code "$" ∷ signed_decimal d ≡ operand_text (Relative d)
unfolding text_of
relative-text d = ap (λ (l : List ℕ). code "$" ∷ l) (sym (signed-text d))

-- a register's name behind a mark, in brackets, and there behind a displacement
module _ (r : ℕ) where
  pub register-text : (code "." ∷ []) ++ register_name r ≡ text_of (register_pieces r)
  unfolding text_of
  register-text = ap (λ (l : List ℕ). code "." ∷ l) (sym (append-nil (register_name r)))

  pub brackets_text : (code "[" ∷ code "." ∷ []) ++ register_name r ++ (code "]" ∷ []) ≡ text_of (in_brackets r)
  unfolding text_of
  brackets_text = refl

  pub brackets_length : length (text_of (in_brackets r)) ≡ length (register_name r) + 3
  unfolding text_of
  brackets_length = omega (arith, length-append (register_name r) (code "]" ∷ []))

  pub indexed-text : (d : ℕ) → (code "#" ∷ signed_decimal d) ++ text_of (in_brackets r) ≡ text_of (indexed_pieces d r)
  unfolding text_of
  indexed-text d =
      ap (λ (l : List ℕ). code "#" ∷ (l ++ text_of (in_brackets r))) (sym (signed-text d))
      ∙ ap (λ (l : List ℕ). code "#" ∷ l) (sym (text_append (signed d) (in_brackets r)))

  pub indexed-length : (d : ℕ) → length (text_of (indexed_pieces d r)) ≡ suc (length (signed_decimal d)) + length (text_of (in_brackets r))
  indexed-length d = ap length (sym (indexed-text d)) ∙ length-append (code "#" ∷ signed_decimal d) (text_of (in_brackets r))

-- behind an opcode: nothing, one operand, two
module _ (a b : Operand) where
  pub field_none : present a ≡ false → [] ≡ text_of (field_pieces a b)
  unfolding text_of
  field_none e = rw e

  pub field_one : present a ≡ true → present b ≡ false → (code " " ∷ []) ++ operand_text a ≡ text_of (field_pieces a b)
  unfolding text_of
  field_one e f = rw (e, f, append-nil (operand_pieces a))

  pub field_two : present a ≡ true → present b ≡ true → (code " " ∷ []) ++ operand_text a ++ (code "," ∷ []) ++ operand_text b ≡ text_of (field_pieces a b)
  unfolding text_of
  field_two e f =
      rw (e, f, text_append (operand_pieces a) (mark (code ",") ∷ operand_pieces b))
      (ap (λ (l : List ℕ). code " " ∷ l) (append_assoc (operand_text a) (code "," ∷ []) (operand_text b)))

  -- there is room for the first where there is room for all
  pub field_first : present a ≡ true → suc (length (operand_text a)) ≤ length (text_of (field_pieces a b))
  unfolding text_of
  field_first e =
      let rest = cond (present b) (mark (code ",") ∷ operand_pieces b) [] in
      rw (e, text_append (operand_pieces a) rest) (omega (arith, length-append (operand_text a) (text_of rest)))

  pub field_second : present a ≡ true → present b ≡ true → suc (length (operand_text a) + suc (length (operand_text b))) ≡ length (text_of (field_pieces a b))
  field_second e f =
      rw (← field_two e f) (omega (arith, length-append (operand_text a ++ (code "," ∷ [])) (operand_text b), length-append (operand_text a) (code "," ∷ [])))

-- ---- lines

pub origin-text : (a : Address) → bytes "ORG " ++ decimal a.0 ≡ line_of (Origin a)
unfolding text_of
origin-text a = ap (λ (l : List ℕ). bytes "ORG " ++ l) (sym (append-nil (decimal a.0)))

pub instruction-text : (i : Instruction) → bytes (table i.op).name ++ text_of (field_pieces i.first i.second) ≡ line_of (Instructs i)
unfolding text_of
instruction-text i = refl

pub instruction-length : (i : Instruction)
    → length (bytes (table i.op).name) + length (text_of (field_pieces i.first i.second)) ≡ length (line_of (Instructs i))
instruction-length i = sym (length-append (bytes (table i.op).name) (text_of (field_pieces i.first i.second))) ∙ ap length (instruction-text i)

pub holds_text : (x : ℕ) → bytes "DATA " ++ decimal x ≡ line_of (Holds x)
unfolding text_of
holds_text x = ap (λ (l : List ℕ). bytes "DATA " ++ l) (sym (append-nil (decimal x)))

pub reserves_text : (n : ℕ) → bytes "RES " ++ decimal n ≡ line_of (Reserves n)
unfolding text_of
reserves_text n = ap (λ (l : List ℕ). bytes "RES " ++ l) (sym (append-nil (decimal n)))

pub finish-text : bytes "END" ≡ line_of Finish
unfolding text_of
finish-text = refl

pub ended-length : (e : Entry) → length (line_of e ++ (LF ∷ [])) ≡ length (line_of e) + 1
ended-length e = length-append (line_of e) (LF ∷ [])

-- a line that follows on, and one that does not
module _ (behind at : ℕ) (e : Entry) where
  pub line_on : at ≡ behind → line_of e ++ (LF ∷ []) ≡ line_text behind at e
  unfolding text_of_lines
  line_on h = rw (eq-eqb at behind h)

  pub line-apart : (at ≡ behind → ⊥) → (line_of (Origin (record { 0 = at })) ++ (LF ∷ [])) ++ (line_of e ++ (LF ∷ [])) ≡ line_text behind at e
  unfolding text_of_lines
  line-apart h = rw (ne_eqb at behind h) (append_assoc (line_of (Origin (record { 0 = at }))) (LF ∷ []) (line_of e ++ (LF ∷ [])))

  pub line_apart_length : (at ≡ behind → ⊥) → length (line_of (Origin (record { 0 = at })) ++ (LF ∷ [])) + length (line_of e ++ (LF ∷ [])) ≡ length (line_text behind at e)
  line_apart_length h =
      sym (length-append (line_of (Origin (record { 0 = at })) ++ (LF ∷ [])) (line_of e ++ (LF ∷ []))) ∙ ap length (line-apart h)

-- ---- how long they are at most

signed-short : (d : ℕ) → length (signed_decimal d) ≤ 11
unfolding signed_decimal
signed-short d = go (ltb d 32768) (decimal-length d).1 (decimal-length (65536 - d)).1
  where
    go : (b : Bool) → length (decimal d) ≤ 10 → length (decimal (65536 - d)) ≤ 10 → length (cond b (decimal d) (code "-" ∷ decimal (65536 - d))) ≤ 11
    go true h l = omega arith
    go false h l = omega arith

brackets_short : (r : ℕ) → length (text_of (in_brackets r)) ≤ 5
brackets_short r = omega (arith, brackets_length r, (register-spelled r).short)

indexed-short : (d r : ℕ) → length (text_of (indexed_pieces d r)) ≤ 17
indexed-short d r = omega (arith, indexed-length r d, signed-short d, brackets_short r)

operand_short : (o : Operand) → length (operand_text o) ≤ 17
unfolding text_of
operand_short Absent = omega arith
operand_short (Immediate v) = omega (arith, ap length (immediate-text v), decimal-length v)
operand_short (Register r) = omega (arith, ap length (register-text r), (register-spelled r).short)
operand_short (Memory a) = omega (arith, ap length (memory-text a), decimal-length a)
operand_short (Indirect r) = omega (arith, brackets_short r)
operand_short (IndexedX d) = indexed-short d IX
operand_short (IndexedY d) = indexed-short d IY
operand_short (IndexedSp d) = indexed-short d SP
operand_short (Relative d) = omega (arith, ap length (relative-text d), signed-short d)

field_short : (a b : Operand) → length (text_of (field_pieces a b)) ≤ 36
field_short a b = go (present a) (present b) refl refl
  where
    go : (p q : Bool) → present a ≡ p → present b ≡ q → length (text_of (field_pieces a b)) ≤ 36
    go false q e f = omega (arith, ap length (field_none a b e))
    go true false e f = omega (arith, ap length (field_one a b e f), operand_short a)
    go true true e f = omega (arith, field_second a b e f, operand_short a, operand_short b)

line-short : (e : Entry) → length (line_of e) ≤ 42
line-short (Origin a) = omega (arith, ap length (origin-text a), decimal-length a.0)
line-short (Instructs i) = omega (arith, instruction-length i, (opcode-spelled i.op).short, field_short i.first i.second)
line-short (Holds x) = omega (arith, ap length (holds_text x), decimal-length x)
line-short (Reserves n) = omega (arith, ap length (reserves_text n), decimal-length n)
line-short Finish = omega (arith, ap length finish-text)

origin-short : (a : Address) → length (line_of (Origin a)) ≤ 14
origin-short a = omega (arith, ap length (origin-text a), decimal-length a.0)

pub lines-short : (behind at : ℕ) (e : Entry) → length (line_text behind at e) ≤ longest_lines
lines-short behind at e = go (eqb at behind) refl
  where
    go : (b : Bool) → eqb at behind ≡ b → length (line_text behind at e) ≤ longest_lines
    go true h = omega (arith, ap length (line_on behind at e (eqb-true at behind h)), ended-length e, line-short e)
    go false h =
        omega (
          arith,
          line_apart_length behind at e (eqb-false at behind h),
          ended-length (Origin (record { 0 = at })),
          ended-length e,
          origin-short (record { 0 = at }),
          line-short e,
        )
