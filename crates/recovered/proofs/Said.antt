-- Each line of a listing says what it lists: its tokens, its reading, what is judged of it and the cells it gives.
use Prim.Native.Nat.{ℕ, ◌+◌, ◌<◌}
use Prim.Native.Char.{code}
use Prim.Native.String.{String}
use mathlib.Core.Bool.{Bool, true, false, cond, false≢true}
use mathlib.Core.List.{List, [], ◌∷◌, ◌++◌, append-nil}
use mathlib.Core.Path.{◌≡◌, refl, sym, ap, ap₂, subst, ◌∙◌}
use native.Mathlib.Omega.{arith}
use lib.Dec.{T, ltb}
use lib.IntN.{pos}
use lib.ListN.{length}
use mir.Syntax.{w16}
use mir.Val.{of_z}
use borrow.Author.Tests.{le-leb}
use Rattle.numerals.specs.Bytes.{bytes}
use Rattle.isa.specs.Opcodes.{table}
use Rattle.isa.specs.Inner.Words as isa
use Rattle.isa.specs.Operands.{register_there, mode_of}
use Rattle.isa.specs.Encoding.{words_of, allowed}
use Rattle.isa.specs.declared.Instruction.{Instruction}
use Rattle.isa.specs.declared.Operand.{Operand}
use Rattle.isa.specs.declared.Operand.TheVariants as O
use Rattle.isa.proofs.Words.{parts}
use Rattle.tokens.specs.Bytes.{is_mark, is_blank}
use Rattle.tokens.specs.Rows.{token}
use Rattle.tokens.specs.declared.Kind.TheVariants as K
use Rattle.tokens.specs.declared.Token.{Token}
use Rattle.names.specs.Names.{word_of}
use Rattle.names.specs.declared.Word.{Word}
use Rattle.names.proofs.Exactly.{opcode_is_found}
use Rattle.names.proofs.Own.{org_is_found, res_is_found, data_is_found, end_is_found}
use Rattle.values.specs.Values.{plain}
use Rattle.std.proofs.Common.{None, Ok}
use Rattle.values.specs.declared.Name.{Name}
use Rattle.values.proofs.Displaced.{unsigned_of}
use Rattle.expressions.specs.Grammar as Grammar
use Rattle.expressions.specs.Trees.{literal, depth}
use Rattle.expressions.specs.Worths.{worth_of, of_number}
use Rattle.operands.specs.Operands.{one, more, OperandField, none, some}
use Rattle.operands.specs.Checks as Checks
use Rattle.operands.proofs.Back.{written_of, plainly, list_by, written_in, judged-back}
use Rattle.items.specs.Items as Items
use Rattle.items.specs.Items.{cells_of, all_in_range}
use Rattle.statements.specs.Statements as Rule
use Rattle.statements.specs.Statements.{Reading, instruction, org, res, cells, end, Label, label, StatementWord, Body, unlabelled, Says}
use Rattle.statements.specs.Checks.{least_unsigned}
use Rattle.statements.specs.Judging.{judged, tree_result, result_of}
use Rattle.statements.specs.declared.Statement.{Statement}
use Rattle.statements.specs.declared.Statement.TheVariants as S
use Rattle.sources.specs.Placing.{Bound}
use Rattle.sources.specs.Image.{given_by, code_read}
use Rattle.listing.specs.Pieces.{Piece, word, number, mark, space, text_of}
use Rattle.listing.specs.Lines.{operand_pieces, present, field_pieces, entry_pieces, line_of}
use Rattle.listing.specs.declared.Entry.TheVariants.{Origin, Instructs, Holds, Reserves, Finish}
use Rattle.recovered.proofs.Pieces.{row_from, parted, Fine, row_of, row_append, behind, Stand, next-piece, next_pieces, first_pieces, word-there}
use Rattle.recovered.proofs.Names.{IsWord, opcode_is_word, org_is_word, res_is_word, data_is_word, end_is_word}
use Rattle.recovered.proofs.Operands.{fine-operand, operand-text}

-- ---- no label: the second token follows a blank

unfoldable second_directly : List Token → Bool
second_directly [] = false
second_directly (w ∷ []) = false
second_directly (w ∷ c ∷ ts) = c.directly

label_directly : {ts us : List Token} {n : Name} → Label ts n us → second_directly ts ≡ true
unfolding second_directly
label_directly (label a b c) = c

no_label : {ts : List Token} → second_directly ts ≡ false → (n : Name) (us : List Token) → Label ts n us → ⊥
no_label e n us l = false≢true (sym e ∙ label_directly l)

-- ---- a line that begins with a word

-- all its pieces stand at its start
whole : (ps : List Piece) → Stand (text_of ps) 0 ps []
whole ps = record { there = sym (append-nil (text_of ps)) }

-- its first word is the statement's
statement-word : (name : String) (ps : List Piece) {m : Word} → IsWord name → word_of (bytes name) ≡ m
    → StatementWord (text_of (word (bytes name) ∷ ps)) (token K.Word 0 true (0 + length (bytes name))) m
statement-word name ps n e = record { word = refl; means = ap word_of (word-there n.begins (whole (word (bytes name) ∷ ps))) ∙ e }

-- a line without a label, by the tokens of its pieces
says : (ps : List Piece) (r : Reading) → Fine ps → second_directly (row_from 0 true ps) ≡ false → Body (text_of ps) (row_from 0 true ps) r
    → Says (text_of ps) None r
says ps r f s b = record { tokens = row_from 0 true ps; row = row_of ps 0 true f; text = unlabelled (no_label s) b }

-- a word and a number behind it
pub number-fine : (name : String) (n : ℕ) → IsWord name → n < 65536 → Fine (word (bytes name) ∷ space ∷ number n ∷ [])
unfolding Fine
number-fine name n w h = (w.begins, w.all, tt, (omega arith, tt, tt))

-- ---- `DATA n`

abbrev pub data_reading : ℕ → Reading
data_reading x = cells (Items.number (unsigned_of x) ∷ [])

pub data_says : (x : ℕ) → x < 65536 → Says (line_of (Holds x)) None (data_reading x)
unfolding row_from Fine second_directly
data_says x h =
    says (entry_pieces (Holds x)) (data_reading x) (number-fine "DATA" x data_is_word h) refl
    (Rule.items (statement-word "DATA" (space ∷ number x ∷ []) data_is_word data_is_found) (Items.one (Items.is_number (plain refl))))

-- ---- `ORG n`

pub org-says : (n : ℕ) → n < 65536 → Says (line_of (Origin (record { 0 = n }))) None (org (literal n))
unfolding row_from Fine second_directly
org-says n h =
    says (entry_pieces (Origin (record { 0 = n }))) (org (literal n)) (number-fine "ORG" n org_is_word h) refl
    (Rule.origin (statement-word "ORG" (space ∷ number n ∷ []) org_is_word org_is_found) (Grammar.one_product (Grammar.one_factor (Grammar.literal refl))))

-- ---- `RES n`

pub res-says : (n : ℕ) → n < 65536 → Says (line_of (Reserves n)) None (res (literal n))
unfolding row_from Fine second_directly
res-says n h =
    says (entry_pieces (Reserves n)) (res (literal n)) (number-fine "RES" n res_is_word h) refl
    (Rule.reserve (statement-word "RES" (space ∷ number n ∷ []) res_is_word res_is_found) (Grammar.one_product (Grammar.one_factor (Grammar.literal refl))))

-- ---- `END`

pub end-fine : Fine (entry_pieces Finish)
unfolding Fine
end-fine = (end_is_word.begins, end_is_word.all, tt, tt)

pub end-says : Says (line_of Finish) None end
unfolding row_from Fine second_directly
end-says =
    says (entry_pieces Finish) end end-fine refl (Rule.ends (statement-word "END" [] end_is_word end_is_found))

-- ---- what is judged

-- a cell is kept as itself
cell-number : (n : ℕ) → n < 65536 → of_z w16 (pos n) ≡ n
cell-number n h = refl

pub data_judged : (x : ℕ) → x < 65536 → (judged (data_reading x) ≡ Ok (S.Data 1)) × (cells_of (Items.number (unsigned_of x) ∷ []) ≡ x ∷ [])
unfolding judged all_in_range cells_of
data_judged x h = (rw (le-leb x 65535 (omega arith)), ap (λ (n : ℕ). n ∷ []) (cell-number x h))

-- an expression that is a number alone results in it
number-result : (makes : ℕ → Statement) (n : ℕ) → n < 65536 → tree_result least_unsigned makes (literal n) ≡ Ok (makes n)
unfolding tree_result depth worth_of of_number result_of
number-result makes n h =
    rw (le-leb n 65535 (omega arith))
    (rw (le-leb 0 n (omega arith), le-leb n 65535 (omega arith)) (ap (λ (v : ℕ). Ok (makes v)) (cell-number n h)))

pub org-judged : (n : ℕ) → n < 65536 → judged (org (literal n)) ≡ Ok (S.Org n)
unfolding judged
org-judged = number-result S.Org

pub res-judged : (n : ℕ) → n < 65536 → judged (res (literal n)) ≡ Ok (S.Res n)
unfolding judged
res-judged = number-result S.Res

-- ---- an instruction

-- what is written behind the opcode's word, by which operands are there
abbrev field_by : Bool → Bool → Operand → Operand → List Piece
field_by pa pb a b = cond pa (space ∷ operand_pieces a ++ cond pb (mark (code ",") ∷ operand_pieces b) []) []

module _ (a b : Operand) (ra : register_there a ≡ true) (rb : register_there b ≡ true) where
  -- it is an operand field of the rules
  field_text : (line : List ℕ) (at : ℕ) (pa pb : Bool) → (pa ≡ true → present a ≡ true) → (pb ≡ true → present b ≡ true)
      → Stand line at (field_by pa pb a b) [] → OperandField line (row_from at true (field_by pa pb a b)) (list_by pa pb a b)
  unfolding row_from list_by
  field_text line at false pb p q s = none
  field_text line at true false p q s =
      let s₁ = next-piece s in
      subst (λ (ps : List Piece). OperandField line (row_from (at + 1) false ps) (written_of a ∷ [])) (sym (append-nil (operand_pieces a)))
      (some (one (operand-text line a false (p refl) ra (first_pieces (operand_pieces a) [] s₁))))
  field_text line at true true p q s =
      let qs = mark (code ",") ∷ operand_pieces b in
      let s₁ = next-piece s in
      let s₂ = next_pieces (operand_pieces a) qs s₁ in
      let n = at + 1 + length (text_of (operand_pieces a)) in
      let z = behind false (operand_pieces a) in
      subst (λ (ts : List Token). OperandField line ts (written_of a ∷ written_of b ∷ [])) (sym (row_append (operand_pieces a) qs (at + 1) false))
      (some
      (more (token (K.Mark (code ",")) n z (n + 1)) (operand-text line a false (p refl) ra (first_pieces (operand_pieces a) qs s₁)) refl
      (one (operand-text line b true (q refl) rb (next-piece s₂)))))

  module _ (ha : isa.word_of a < 65536) (hb : isa.word_of b < 65536) where
    fine_field : (pa pb : Bool) → Fine (field_by pa pb a b)
    unfolding Fine is_mark is_blank
    fine_field false pb = tt
    fine_field true false = fine-operand a [] ra ha tt tt
    fine_field true true =
        fine-operand a (mark (code ",") ∷ operand_pieces b) ra ha tt (tt, subst Fine (append-nil (operand_pieces b)) (fine-operand b [] rb hb tt tt))

parted_field : (pa pb : Bool) (a b : Operand) → T (parted (field_by pa pb a b))
parted_field false pb a b = tt
parted_field true pb a b = tt

-- the second token of the line, if there is one, follows the space
second-operand : (a : Operand) (t : Token) (at : ℕ) (qs : List Piece) → present a ≡ true
    → second_directly (t ∷ row_from at false (operand_pieces a ++ qs)) ≡ false
unfolding second_directly row_from
second-operand O.Absent t at qs e = absurd (false≢true e)
second-operand (O.Immediate v) t at qs e = refl
second-operand (O.Register r) t at qs e = refl
second-operand (O.Memory m) t at qs e = refl
second-operand (O.Indirect r) t at qs e = refl
second-operand (O.IndexedX d) t at qs e = refl
second-operand (O.IndexedY d) t at qs e = refl
second-operand (O.IndexedSp d) t at qs e = refl
second-operand (O.Relative d) t at qs e = refl

second_field : (t : Token) (at : ℕ) (a b : Operand) (pa pb : Bool) → (pa ≡ true → present a ≡ true)
    → second_directly (t ∷ row_from at true (field_by pa pb a b)) ≡ false
unfolding second_directly row_from
second_field t at a b false pb p = refl
second_field t at a b true pb p = second-operand a t (at + 1) (cond pb (mark (code ",") ∷ operand_pieces b) []) (p refl)

-- what an instruction has to be to be listed
pub record Sound (i : Instruction) : Type 0 where
  pub is_allowed : allowed i ≡ true
  pub first_below : isa.word_of i.first < 65536
  pub second_below : isa.word_of i.second < 65536

abbrev pub reading_of : Instruction → Reading
reading_of i = instruction i.op (written_in i)

pub instruction-fine : (i : Instruction) → Sound i → Fine (entry_pieces (Instructs i))
unfolding Fine
instruction-fine i s =
    let a = i.first in
    let b = i.second in
    let g = parts i s.is_allowed in
    let n = opcode_is_word i.op in (
      n.begins,
      n.all,
      parted_field (present a) (present b) a b,
      fine_field a b g.first-register g.second-register s.first_below s.second_below (present a) (present b),
    )

-- an operand is there where its mode is not 0
present-mode : (o : Operand) → present o ≡ ltb 0 (mode_of o)
present-mode O.Absent = refl
present-mode (O.Immediate v) = refl
present-mode (O.Register r) = refl
present-mode (O.Memory a) = refl
present-mode (O.Indirect r) = refl
present-mode (O.IndexedX d) = refl
present-mode (O.IndexedY d) = refl
present-mode (O.IndexedSp d) = refl
present-mode (O.Relative d) = refl

-- the operands that are written are those that are there
those_there : (i : Instruction) → list_by (present i.first) (present i.second) i.first i.second ≡ written_in i
those_there i = ap₂ (λ (one two : Bool). list_by one two i.first i.second) (present-mode i.first) (present-mode i.second)

pub instruction-says : (i : Instruction) → Sound i → Says (line_of (Instructs i)) None (reading_of i)
unfolding row_from Fine
instruction-says i s =
    let a = i.first in
    let b = i.second in
    let g = parts i s.is_allowed in
    let n = opcode_is_word i.op in
    let w = bytes (table i.op).name in
    let ps = field_pieces a b in
    says (entry_pieces (Instructs i)) (reading_of i)
    (instruction-fine i s)
    (second_field (token K.Word 0 true (0 + length w)) (0 + length w) a b (present a) (present b) (λ e. e))
    (Rule.opcode (statement-word (table i.op).name ps n (opcode_is_found i.op))
    (subst (OperandField (text_of (word w ∷ ps)) (row_from (0 + length w) true ps)) (those_there i)
    (field_text a b g.first-register g.second-register (text_of (word w ∷ ps)) (0 + length w) (present a) (present b) (λ e. e) (λ e. e)
    (next-piece (whole (word w ∷ ps))))))

-- ---- what is judged of an instruction

module _ (i : Instruction) (s : Sound i) where
  operands-back : Checks.judged i.op (written_in i) ≡ Ok (record { first = plainly i.first; second = plainly i.second })
  operands-back = judged-back i s.is_allowed s.first_below s.second_below

  pub instruction-judged : judged (reading_of i) ≡ Ok (S.Instruction i.op (plainly i.first) (plainly i.second))
  unfolding judged
  instruction-judged = rw operands-back

  pub instruction-gives : (bs : List Bound) (bytes : List ℕ) (next : ℕ) → given_by bs bytes next (reading_of i) ≡ words_of i
  instruction-gives bs bytes next = ap (code_read bs bytes next i.op) operands-back
