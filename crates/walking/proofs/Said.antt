-- What holds of an instruction that a line says, with its operands as they stand.
use Prim.Native.Nat.{ℕ, suc, ◌+◌, ◌-◌, ◌≤◌, ◌<◌}
use mathlib.Core.Bool.{Bool, true, false, cond}
use mathlib.Core.List.{List, [], ◌∷◌, ◌++◌}
use mathlib.Core.Path.{◌≡◌, refl, sym, ap, ap₂, subst, ◌∙◌}
use native.Mathlib.Omega.{arith}
use lib.ListN.{length, length-append}
use Rattle.codes.specs.Limits.{most_cells, longest_source}
use Rattle.isa.specs.Opcodes.{count_of}
use Rattle.isa.specs.Operands.{operand_words}
use Rattle.isa.specs.Inner.Words.{word_of}
use Rattle.isa.specs.Encoding.{allowed, words_of, encode_of}
use Rattle.isa.specs.declared.Instruction.{Instruction}
use Rattle.isa.specs.declared.Opcode.{Opcode}
use Rattle.isa.specs.declared.Operand.{Operand}
use Rattle.isa.specs.declared.Operand.TheVariants as O
use Rattle.isa.proofs.Top as isa
use Rattle.tokens.specs.Reading.{tokens_within, tokens_from}
use Rattle.std.proofs.Common.{Option, Some, None, Ok}
use Rattle.values.specs.declared.Name.{Name}
use Rattle.values.proofs.Within.{LabelWithin}
use Rattle.operands.specs.Checks.{operand_at, label_in, given}
use Rattle.operands.specs.Settling.{reworded, settled_by, settled_instruction}
use Rattle.operands.specs.declared.Given.{Given}
use Rattle.operands.specs.declared.Written.{Written}
use Rattle.operands.specs.declared.Written.TheVariants as W
use Rattle.operands.proofs.Top as operands
use Rattle.sources.specs.Uses.{Use, counted_for, use_by, second_cell, uses_by}
use Rattle.statements.specs.Reading.{after_label, statement_read, line_read}
use Rattle.statements.specs.declared.Statement.TheVariants.{Nothing, Instruction as Says}
use Rattle.statements.proofs.Labelling.{never}
use Rattle.statements.proofs.Passing.{instruction-from, words-claimed, operand_labels_within}
use Rattle.labels.specs.Inner.Labels.{Part}
use Rattle.labels.proofs.Laws.{spelled-window}
use Rattle.walking.specs.Inner.Noting.{Placeable, noted_by, noted}
use Rattle.walking.proofs.Notes.{few_words}

-- an instruction with its operands as they stand
abbrev pub standing : Opcode → Given → Given → Instruction
standing op a b = record { op = op; first = a.operand; second = b.operand }

-- an operand with the word that stands there is as it stands
same_word : (o : Operand) → reworded o (word_of o) ≡ o
same_word O.Absent = refl
same_word (O.Immediate v) = refl
same_word (O.Register r) = refl
same_word (O.Memory a) = refl
same_word (O.Indirect r) = refl
same_word (O.IndexedX d) = refl
same_word (O.IndexedY d) = refl
same_word (O.IndexedSp d) = refl
same_word (O.Relative d) = refl

stands : (l : Option Name) (o : Operand) → settled_by l o (word_of o) ≡ o
stands None o = refl
stands (Some n) o = same_word o

both_stand : (op : Opcode) (a b : Given) → settled_instruction op a b (word_of a.operand) (word_of b.operand) ≡ standing op a b
both_stand op a b =
    ap₂ (λ (x y : Operand). record { op = op; first = x; second = y }) (stands a.label a.operand) (stands b.label b.operand)

-- what the encoder does not refuse is allowed
allowed_by : (i : Instruction) → (encode_of i).refusal ≡ 0 → allowed i ≡ true
allowed_by i e = go (allowed i) (sym (isa.encoder i) ∙ e)
  where
    go : (t : Bool) → ◌≡◌ {A = ℕ} (cond t 0 5) 0 → t ≡ true
    go true q = refl
    go false q = absurd (omega (arith, q))

module _ (line : List ℕ) {op : Opcode} {a b : Given} (e : (line_read line).statement ≡ Ok (Says op a b)) where
  -- the encoder takes it
  pub allowed-said : allowed (standing op a b) ≡ true
  allowed-said =
      let h = instruction-from line e in
      allowed_by (standing op a b)
      (ap (λ (i : Instruction). (encode_of i).refusal) (sym (both_stand op a b))
      ∙ operands.encodes line (tokens_from line h.0) op h.1 (word_of a.operand) (word_of b.operand))

-- ---- an operand that names a label has one word

abbrev LabelHas : Given → Type 0
LabelHas g = (n : Name) → g.label ≡ Some n → length (operand_words g.operand) ≡ 1

written_has : (o : Written) (x : ℕ) → LabelHas (given o x)
unfolding label_in
written_has W.Absent x n e = never (cc)
written_has (W.Immediate v) x n e = refl
written_has (W.Register r) x n e = refl
written_has (W.Memory v) x n e = refl
written_has (W.Indirect r) x n e = refl
written_has (W.IndexedX v) x n e = refl
written_has (W.IndexedY v) x n e = refl
written_has (W.IndexedSp v) x n e = refl
written_has (W.Relative v) x n e = refl

empty-line : (line_read []).statement ≡ Ok Nothing
unfolding line_read statement_read after_label tokens_from tokens_within
empty-line = refl

-- a line that says an instruction has a byte
pub some_byte : (line : List ℕ) {op : Opcode} {a b : Given} → (line_read line).statement ≡ Ok (Says op a b) → 0 < length line
some_byte [] e = let z = empty-line in never (cc)
some_byte (x ∷ xs) e = omega arith

module _ (line : List ℕ) {op : Opcode} {a b : Given} (e : (line_read line).statement ≡ Ok (Says op a b)) where
  labels_have : LabelHas a × LabelHas b
  labels_have =
      let h = instruction-from line e in
      let r = (operands.read-exactly line (tokens_from line h.0) op).0 h.1 in
      let first = written_has (operand_at r.operands 0) r.first_word in
      let second = written_has (operand_at r.operands 1) r.second_word in
      (subst LabelHas (sym r.first-given) first, subst LabelHas (sym r.second-given) second)

  -- its words: the first, and those of its operands
  words-counted : 1 + length (operand_words a.operand) + length (operand_words b.operand) ≡ suc (count_of op)
  unfolding words_of
  words-counted =
      omega (
        arith,
        length-append (operand_words a.operand) (operand_words b.operand),
        sym (ap (λ (i : Instruction). length (words_of i)) (both_stand op a b)) ∙ words-claimed line e (word_of a.operand) (word_of b.operand),
      )

  module _ (start at : ℕ) (fits : start + length line ≤ longest_source) (room : at + suc (count_of op) ≤ most_cells) {n : ℕ} (m : n ≡ count_of op) where
    -- the labels of both operands fit where they are kept
    pub first-placeable : Placeable start (at + 1) (at + n + 1) a.label
    first-placeable = go a.label refl (operand_labels_within line e).0
      where
        go : (l : Option Name) → a.label ≡ l → LabelWithin (length line) l → Placeable start (at + 1) (at + n + 1) l
        go None q h = tt
        go (Some x) q h =
            let w = labels_have.0 x q in
            let c = words-counted in
            let f = few_words b.operand in (
              omega (arith, h.0),
              omega (arith, h.1, fits),
              omega (arith, w, c, m),
              omega (arith, w, c, m, f),
              omega (arith, m, room),
            )

    pub second-placeable : Placeable start (second_cell at a) (at + n + 1) b.label
    second-placeable = go b.label refl (operand_labels_within line e).1
      where
        go : (l : Option Name) → b.label ≡ l → LabelWithin (length line) l → Placeable start (second_cell at a) (at + n + 1) l
        go None q h = tt
        go (Some x) q h =
            let w = labels_have.1 x q in
            let c = words-counted in (
              omega (arith, h.0),
              omega (arith, h.1, fits),
              omega (arith, w, c, m),
              omega (arith, w, c, m),
              omega (arith, m, room),
            )

  -- ---- the names as the line has them

  module _ (s : List ℕ) (start k : ℕ) (part : Part s start line) where
    named-there : (o : Operand) (l : Option Name) → LabelWithin (length line) l → (cell next : ℕ)
        → noted_by s start k cell next o l ≡ use_by k line cell next o l
    named-there o None h cell next = refl
    named-there o (Some x) h cell next =
        ap (λ (w : List ℕ). record { line = k; name = w; cell = cell; counted = counted_for o next } ∷ [])
        (sym (part x.start (x.end - x.start) (omega (arith, h.0, h.1))) ∙ sym (spelled-window line x (omega (arith, h.0)) h.1))

    -- what is kept of both operands is what the statement names
    pub uses-noted : (at : ℕ) {n : ℕ} → n ≡ count_of op → (us : List Use) {vs : List Use}
        → vs ≡ us ++ (noted s start k (at + 1) (at + n + 1) a ++ noted s start k (second_cell at a) (at + n + 1) b)
        → vs ≡ us ++ uses_by k line at (Says op a b)
    unfolding uses_by
    uses-noted at {n} m us v =
        let q : at + n + 1 ≡ at + suc (count_of op) = omega (arith, m) in
        let h = operand_labels_within line e in
        v
        ∙ ap (λ (i : ℕ). us ++ (noted s start k (at + 1) i a ++ noted s start k (second_cell at a) i b)) q
        ∙ ap₂ (λ (x y : List Use). us ++ (x ++ y)) (named-there a.operand a.label h.0 (at + 1) (at + suc (count_of op)))
        (named-there b.operand b.label h.1 (second_cell at a) (at + suc (count_of op)))
