-- What stands before a name in an operand is the operand's first mark: where the operand starts.
use Prim.Native.Nat.{ℕ}
use mathlib.Core.List.{List, [], ◌∷◌, ◌++◌, append_assoc, append-nil}
use mathlib.Core.Path.{◌≡◌, refl, sym, ap, subst, ◌∙◌}
use Rattle.tokens.specs.Marks.{IsMark}
use Rattle.tokens.specs.Rows.{RowOf}
use Rattle.tokens.specs.declared.Token.{Token}
use Rattle.names.specs.declared.Word.{Word}
use Rattle.values.specs.Values as Vs
use Rattle.values.specs.Values.{ValueText, name_at}
use Rattle.std.proofs.Common.{Option, Some}
use Rattle.values.specs.declared.Name.{Name}
use Rattle.values.specs.declared.Value.{Value}
use Rattle.operands.specs.Checks.{label_of, label_in}
use Rattle.operands.specs.Operands.{OperandText, immediate, register, memory, indirect, indexed, relative, Index, by_IX, by_IY, by_SP}
use Rattle.operands.specs.Places.{OperandThere, alone, first, later, OperandStart, Starts, head}
use Rattle.operands.specs.declared.Written.{Written}
use Rattle.statements.specs.Statements.{label}
use Rattle.statements.proofs.Labelling.{never}
use Rattle.columns.specs.Points.{AfterLabel, labelled, unlabelled, Statement}
use Rattle.columns.specs.Columns.{mark_before}
use Rattle.columns.proofs.Marks.{mark-exactly}

-- an operand's tokens that name a label: its mark, the name behind it, and the rest
data Names (n : Name) : List Token → Type 0 where
  names : {b : ℕ} (m t : Token) (rest : List Token) → IsMark b m → t.start ≡ n.start → Names n (m ∷ t ∷ rest)

behind-mark : {b : ℕ} {us : List Token} {v : Value} {n : Name} (m : Token) (rest : List Token) → IsMark b m → ValueText us v → label_of v ≡ Some n
    → Names n (m ∷ (us ++ rest))
behind-mark m rest k (Vs.number x) e = never (cc)
behind-mark {n = n} m rest k (Vs.label {t} w) e = names m t rest k (starts e)
  where
    starts : ◌≡◌ {A = Option Name} (Some (name_at t)) (Some n) → t.start ≡ n.start
    starts e = cc

value-names : {b : ℕ} {us : List Token} {v : Value} {n : Name} {m : Token} → IsMark b m → ValueText us v → label_of v ≡ Some n → Names n (m ∷ us)
value-names {us = us} {n = n} {m} k t e = subst (λ (vs : List Token). Names n (m ∷ vs)) (append-nil us) (behind-mark m [] k t e)

index_label : {r : ℕ} {v : Value} {o : Written} → Index r v o → label_in o ≡ label_of v
unfolding label_in
index_label by_IX = refl
index_label by_IY = refl
index_label by_SP = refl

module _ (line : List ℕ) where
  operand-names : {us : List Token} {o : Written} {n : Name} → OperandText line us o → label_in o ≡ Some n → Names n us
  unfolding label_in
  operand-names (immediate k t) e = value-names k t e
  operand-names (register k r) e = never (cc)
  operand-names (memory k t) e = value-names k t e
  operand-names (indirect a d r z) e = never (cc)
  operand-names (indexed m a d t z k u _ _ _ x _) e = behind-mark m (a ∷ d ∷ t ∷ z ∷ []) k u (sym (index_label x) ∙ e)
  operand-names (relative k t) e = value-names k t e

  -- ---- in the row

  its-text : {ts us : List Token} {i : ℕ} {o : Written} → OperandThere line ts i us o → OperandText line us o
  its-text (alone t) = t
  its-text (first c t k r) = t
  its-text (later c t k r) = its-text r

  its_part : {ts us : List Token} {i : ℕ} {o : Written} → OperandThere line ts i us o
      → (pre : List Token) × (rest : List Token) × (ts ≡ pre ++ (us ++ rest))
  its_part (alone {ts} t) = ([], [], sym (append-nil ts))
  its_part (first {us = us} c t k r) = ([], c ∷ us, refl)
  its_part (later {ts} {us} {vs} c t k r) =
      let h = its_part r in (
        ts ++ (c ∷ h.0),
        h.1,
        ap (λ (l : List Token). ts ++ (c ∷ l)) h.2 ∙ sym (append_assoc ts (c ∷ h.0) (vs ++ h.1)),
      )

  before-word : {tokens us : List Token} → AfterLabel tokens us → (pre : List Token) × (tokens ≡ pre ++ us)
  before-word (labelled (label {w} {c} k m d)) = (w ∷ c ∷ [], refl)
  before-word (unlabelled none) = ([], refl)

  module _ {w : Token} {x : Word} {ts : List Token} (s : Statement line w x ts) where
    its-mark : {n : Name} {us : List Token} (pre rest : List Token) → ts ≡ pre ++ (us ++ rest) → Names n us → Starts us (mark_before line n.start)
    its-mark {n} pre rest e (names {b} m t vs k q) =
        let h = before-word s.after in
        let f : s.tokens ≡ (h.0 ++ (w ∷ pre)) ++ (m ∷ t ∷ (vs ++ rest)) =
        h.1
        ∙ ap (λ (l : List Token). h.0 ++ (w ∷ l)) e
        ∙ sym (append_assoc h.0 (w ∷ pre) (m ∷ t ∷ (vs ++ rest))) in
        let r = mark-exactly line m t (vs ++ rest) b k (h.0 ++ (w ∷ pre)) (subst (RowOf line) f s.row) in
        subst (Starts (m ∷ t ∷ vs)) (sym r ∙ ap (mark_before line) q) head

    pub operand-marked : {us : List Token} {i : ℕ} {o : Written} {n : Name} → OperandThere line ts i us o → label_in o ≡ Some n
        → OperandStart line ts i (mark_before line n.start)
    operand-marked {us} {i} {o} there e =
        let p = its_part there in
        record { tokens = us; operand = o; there = there; starts = its-mark p.0 p.1 p.2 (operand-names (its-text there) e) }
