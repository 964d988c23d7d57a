-- Where operands and their numbers stand: what the code finds, and that it is what the rule gives.
use Prim.Native.Nat.{ℕ, zero, suc, ◌-◌, ◌≤◌, ◌<◌}
use Prim.Native.Char.{code}
use mathlib.Core.Bool.{cond}
use mathlib.Core.List.{List, [], ◌∷◌, ◌++◌, append_assoc, append-nil}
use mathlib.Core.Logic.{◌↔◌, ◌⊎◌, inl, inr}
use mathlib.Core.Path.{◌≡◌, refl, sym, ap, subst, ◌∙◌}
use native.Mathlib.Omega.{arith}
use lib.Dec.{eqb}
use lib.ListN.{length}
use borrow.Author.Tests.{eq-eqb, ne_eqb}
use Rattle.numerals.specs.Numbers.{kept_of}
use Rattle.numerals.specs.declared.Cursor.{Cursor}
use Rattle.std.proofs.Common.{Option, Some, None}
use Rattle.numerals.specs.declared.Read.{Read}
use Rattle.numerals.specs.declared.Numeral.{Numeral}
use Rattle.tokens.specs.Marks.{IsMark, mark_by, mark_of}
use Rattle.tokens.specs.Reading.{token_at, after_kind, tokens_within, tokens_from}
use Rattle.tokens.specs.declared.Kind.{Kind}
use Rattle.tokens.specs.declared.Kind.TheVariants as K
use Rattle.tokens.specs.declared.Token.{Token}
use Rattle.tokens.proofs.Heads.{row_of, ends_of}
use Rattle.tokens.proofs.Places.{EndsAt, token_placed}
use Rattle.values.specs.Values.{NumberText, plain, minus, ValueText, number, label}
use Rattle.values.specs.Ranges.{displacement_of}
use Rattle.values.specs.Values as Values
use Rattle.values.specs.declared.Value.{Value}
use Rattle.operands.specs.Operands as G
use Rattle.operands.specs.Operands.{Index, by_IX, by_IY, by_SP, OperandText, Operands, one, more, OperandField, none, some}
use Rattle.operands.specs.Reading.{RowRead, reads, wrong}
use Rattle.operands.specs.Checks.{operand_at, cell_of, word_of}
use Rattle.operands.specs.Places.{Starts, head, NumberStarts, behind, OperandThere, alone, first, later, OperandStart, NumberAt, NumberOut, in_first, in_second, start_of, after_comma, after_commas, operand_start_in, number_start_in, out_by, out_of, number_out_in}
use Rattle.operands.specs.Inner.Peeks.{keep_all, keep, none_listed, listed}
use Rattle.operands.specs.declared.FirstTwo.{FirstTwo}
use Rattle.operands.specs.declared.Written.{Written}
use Rattle.operands.specs.declared.Written.TheVariants.{Absent}
use Rattle.operands.proofs.Judged.{keep_no_more}
use Rattle.operands.proofs.Readings.{field_complete, once}
use Rattle.operands.proofs.Turns.{mark-row}

-- ---- what the code finds

start-after : (k : Kind) (t : Token) (rest : ℕ → List Token) → (k ≡ K.End → ⊥) → t.start ≡ start_of (after_kind k t rest)
unfolding start_of
start-after K.End t rest h = absurd (h refl)
start-after K.Stray t rest h = refl
start-after K.Word t rest h = refl
start-after (K.Number v k) t rest h = refl
start-after K.Text t rest h = refl
start-after (K.Mark b) t rest h = refl

-- what is left to search behind a token
abbrev passed_by : List ℕ → Kind → ℕ → List Token
passed_by s K.End next = []
passed_by s K.Stray next = []
passed_by s K.Word next = after_comma (tokens_from s next)
passed_by s (K.Number v k) next = after_comma (tokens_from s next)
passed_by s K.Text next = after_comma (tokens_from s next)
passed_by s (K.Mark b) next = cond (eqb b (code ",")) (tokens_from s next) (after_comma (tokens_from s next))

-- a token behind which the search for a comma goes on
abbrev pub GoesOn : Kind → Type 0
GoesOn K.End = ⊥
GoesOn K.Stray = ⊥
GoesOn K.Word = Unit
GoesOn (K.Number v k) = Unit
GoesOn K.Text = Unit
GoesOn (K.Mark b) = b ≡ code "," → ⊥

pub mark_goes_on : {k : Kind} {b : ℕ} → k ≡ K.Mark b → (b ≡ code "," → ⊥) → GoesOn k
mark_goes_on e h = subst GoesOn (sym e) h

pub other_goes_on : (k : Kind) → (k ≡ K.End → ⊥) → (k ≡ K.Stray → ⊥) → ((b : ℕ) → k ≡ K.Mark b → ⊥) → GoesOn k
other_goes_on K.End e t m = e refl
other_goes_on K.Stray e t m = t refl
other_goes_on K.Word e t m = tt
other_goes_on (K.Number v k) e t m = tt
other_goes_on K.Text e t m = tt
other_goes_on (K.Mark b) e t m = absurd (m b refl)

module _ (s : List ℕ) (at : ℕ) where
  passed-by : (k : Kind) → (token_at s at).kind ≡ k → after_comma (tokens_from s at) ≡ passed_by s k (token_at s at).next.at
  unfolding after_comma
  passed-by K.End q = rw (row_of s at q)
  passed-by K.Stray q = rw (row_of s at q, q)
  passed-by K.Word q = rw (row_of s at q, q)
  passed-by (K.Number v k) q = rw (row_of s at q, q)
  passed-by K.Text q = rw (row_of s at q, q)
  passed-by (K.Mark b) q = rw (row_of s at q, q)

  -- behind such a token is what is behind the first comma, and it lies further on in the line
  abbrev Turn : ℕ → Type 0
  Turn next = (after_comma (tokens_from s at) ≡ after_comma (tokens_from s next)) × (at < next) × (next ≤ length s)

  turn-by : (k : Kind) → (token_at s at).kind ≡ k → GoesOn k → Turn (token_at s at).next.at
  turn-by K.End q g = absurd g
  turn-by K.Stray q g = absurd g
  turn-by K.Word q g = let e = ends_of s at q in (passed-by K.Word q, omega (arith, (token_placed s at).starts), e.1)
  turn-by (K.Number v k) q g = let e = ends_of s at q in (passed-by (K.Number v k) q, omega (arith, (token_placed s at).starts), e.1)
  turn-by K.Text q g = let e = ends_of s at q in (passed-by K.Text q, omega (arith, (token_placed s at).starts), e.1)
  turn-by (K.Mark b) q g =
      let e = ends_of s at q in
      (passed-by (K.Mark b) q ∙ rw (ne_eqb b (code ",") g), omega (arith, (token_placed s at).starts), e.1)

  module _ {t : Token} (its : t ≡ token_at s at) where
    its-kind : {k : Kind} → t.kind ≡ k → (token_at s at).kind ≡ k
    its-kind kind = ap (λ (u : Token). u.kind) (sym its) ∙ kind

    passed : {k : Kind} → t.kind ≡ k → after_comma (tokens_from s at) ≡ passed_by s k t.next.at
    passed {k} kind = passed-by k (its-kind kind) ∙ ap (λ (u : Token). passed_by s k u.next.at) (sym its)

    -- where the row starts
    pub token-starts : (t.kind ≡ K.End → ⊥) → t.start ≡ start_of (tokens_from s at)
    token-starts h =
        let e = start-after t.kind t (tokens_from s) h in
        e ∙ ap (λ (u : Token). start_of (after_kind u.kind u (tokens_from s))) its ∙ ap start_of (sym (row_of s at refl))

    pub none-starts : t.kind ≡ K.End → 0 ≡ start_of (tokens_from s at)
    unfolding start_of
    none-starts kind = ap start_of (sym (row_of s at (its-kind kind)))

    -- the line's end has no comma before it
    pub over : t.kind ≡ K.End → tokens_from s at ≡ after_comma (tokens_from s at)
    over kind = row_of s at (its-kind kind) ∙ sym (passed kind)

    pub stray : t.kind ≡ K.Stray → tokens_from s (length s) ≡ after_comma (tokens_from s at)
    unfolding tokens_from tokens_within
    stray kind =
        let z : length s - length s ≡ 0 = omega arith in
        ap (λ (n : ℕ). tokens_within n s (length s)) z ∙ sym (passed kind)

    pub at-comma : {b : ℕ} → t.kind ≡ K.Mark b → b ≡ code "," → tokens_from s t.next.at ≡ after_comma (tokens_from s at)
    at-comma {b} kind e = sym (passed kind ∙ rw (eq-eqb b (code ",") e))

    pub turn : GoesOn t.kind → Turn t.next.at
    turn g = subst (λ (u : Token). GoesOn u.kind → Turn u.next.at) (sym its) (turn-by (token_at s at).kind refl) g

  -- behind a mark
  pub behind-mark : {r : Read ℕ} → mark_of (token_at s at) ≡ Some r → number_start_in (tokens_from s at) ≡ start_of (tokens_from s r.next.at)
  unfolding number_start_in
  behind-mark {r} e = let h = mark-row s at r e in rw (h.0, h.1)

  pub no_mark : mark_of (token_at s at) ≡ None → 0 ≡ number_start_in (tokens_from s at)
  unfolding number_start_in
  no_mark e = go (token_at s at).kind refl e
    where
      go : (k : Kind) → (token_at s at).kind ≡ k → mark_by k (token_at s at).next ≡ None → 0 ≡ number_start_in (tokens_from s at)
      go K.End q e = rw (row_of s at q)
      go K.Stray q e = rw (row_of s at q, q)
      go K.Word q e = rw (row_of s at q, q)
      go (K.Number v k) q e = rw (row_of s at q, q)
      go K.Text q e = rw (row_of s at q, q)
      go (K.Mark b) q e = let z : ◌≡◌ {A = ℕ} 0 1 = cc in absurd (omega arith)

-- what is kept of a list has its first two words
kept-two : (os : List Written) → ((keep_all none_listed os).first ≡ operand_at os 0) × ((keep_all none_listed os).second ≡ operand_at os 1)
unfolding keep_all keep
kept-two [] = (refl, refl)
kept-two (a ∷ []) = (refl, refl)
kept-two (a ∷ b ∷ []) = (refl, refl)
kept-two (a ∷ b ∷ c ∷ os) =
    let e = keep_no_more a b os in
    (ap (λ (all : FirstTwo). all.first) e, ap (λ (all : FirstTwo). all.second) e)

pub out_of_kept : (ts : List Token) (r : RowRead) {all : FirstTwo} → listed none_listed r ≡ Some all
    → out_by ts (word_of all.first) (word_of all.second) ≡ out_of ts r
out_of_kept ts (reads os) {all} e =
    let q : keep_all none_listed os ≡ all = cc in
    let h = kept-two os in
    rw (← q, h.0, h.1)
out_of_kept ts wrong e = let z : ◌≡◌ {A = ℕ} 0 1 = cc in absurd (omega arith)

pub out_of_wrong : (ts : List Token) (r : RowRead) → listed none_listed r ≡ None → 0 ≡ out_of ts r
out_of_wrong ts (reads os) e = let z : ◌≡◌ {A = ℕ} 0 1 = cc in absurd (omega arith)
out_of_wrong ts wrong e = refl

-- ---- no operand has a comma inside

number-without : {us : List Token} {n : Numeral} → NumberText us n → (rest : List Token) → after_comma (us ++ rest) ≡ after_comma rest
unfolding after_comma
number-without (plain e) rest = rw e
number-without (minus m (Values.digits e d)) rest = rw (m, e)

value-without : {us : List Token} {v : Value} → ValueText us v → (rest : List Token) → after_comma (us ++ rest) ≡ after_comma rest
unfolding after_comma
value-without (number n) rest = number-without n rest
value-without (label e) rest = rw e

-- ---- where tokens start

starts_of : {us : List Token} {p : ℕ} → Starts us p → (rest : List Token) → start_of (us ++ rest) ≡ p
unfolding start_of
starts_of head rest = refl

number-begins : {us : List Token} {n : Numeral} → NumberText us n → (rest : List Token) → Starts us (start_of (us ++ rest))
unfolding start_of
number-begins (plain e) rest = head
number-begins (minus m d) rest = head

number_starts_of : {us : List Token} {p : ℕ} → NumberStarts us p → (rest : List Token) → number_start_in (us ++ rest) ≡ p
unfolding number_start_in
number_starts_of (behind {us} m tail e u h) rest = rw (e, append_assoc us tail rest) (starts_of h (tail ++ rest))

-- a number behind an operand's mark, and more of the operand behind it
number_behind : {b : ℕ} {us : List Token} {n : Numeral} (m : Token) (tail rest : List Token) → IsMark b m → NumberText us n
    → NumberStarts (m ∷ us ++ tail) (number_start_in (m ∷ us ++ tail ++ rest))
unfolding number_start_in
number_behind {us = us} m tail rest e u =
    let q : number_start_in (m ∷ us ++ tail ++ rest) ≡ start_of (us ++ (tail ++ rest)) = rw (e, append_assoc us tail rest) in
    subst (NumberStarts (m ∷ us ++ tail)) (sym q) (behind m tail e u (number-begins u (tail ++ rest)))

-- a cell holds no number out of range
held : {k : Option ℕ} {w : ℕ} {A : Type 0} → k ≡ None → k ≡ Some w → A
held e f = let z : ◌≡◌ {A = ℕ} 0 1 = cc in absurd (omega arith)

module _ (line : List ℕ) where
  without : {us : List Token} {o : Written} → OperandText line us o → (rest : List Token) → after_comma (us ++ rest) ≡ after_comma rest
  unfolding after_comma
  without (G.immediate e u) rest = rw e (value-without u rest)
  without (G.register e n) rest = rw (e, n.word)
  without (G.memory e u) rest = rw e (value-without u rest)
  without (G.indirect ea ed n ez) rest = rw (ea, ed, n.word, ez)
  without (G.indexed {us} m a d t z e u ea ed n i ez) rest =
      rw (e, append_assoc us (a ∷ d ∷ t ∷ z ∷ []) rest) (value-without u (a ∷ d ∷ t ∷ z ∷ rest) ∙ rw (ea, ed, n.word, ez))
  without (G.relative e u) rest = rw e (value-without u rest)

  behind_it : {ts us : List Token} {o : Written} (c : Token) → OperandText line ts o → IsMark (code ",") c → after_comma (ts ++ c ∷ us) ≡ us
  unfolding after_comma
  behind_it {us = us} c u e = without u (c ∷ us) ∙ rw e

  begins : {us : List Token} {o : Written} → OperandText line us o → (rest : List Token) → Starts us (start_of (us ++ rest))
  unfolding start_of
  begins (G.immediate e u) rest = head
  begins (G.register e n) rest = head
  begins (G.memory e u) rest = head
  begins (G.indirect ea ed n ez) rest = head
  begins (G.indexed m a d t z e u ea ed n i ez) rest = head
  begins (G.relative e u) rest = head

  -- ---- an operand out of range has a number

  value-behind : {b : ℕ} {us : List Token} {v : Value} (keeps : Numeral → Option ℕ) (m : Token) (tail rest : List Token) → IsMark b m → ValueText us v
      → cell_of keeps v ≡ None → NumberStarts (m ∷ us ++ tail) (number_start_in (m ∷ us ++ tail ++ rest))
  value-behind keeps m tail rest e (number u) w = number_behind m tail rest e u
  value-behind keeps m tail rest e (label q) w = held w refl

  value-last : {b : ℕ} {us : List Token} {v : Value} (keeps : Numeral → Option ℕ) (m : Token) (rest : List Token) → IsMark b m → ValueText us v
      → cell_of keeps v ≡ None → NumberStarts (m ∷ us) (number_start_in (m ∷ us ++ rest))
  value-last {us = us} keeps m rest e u w = rw (append-nil us) at (value-behind keeps m [] rest e u w)

  index_out : {r : ℕ} {v : Value} {o : Written} → Index r v o → word_of o ≡ None → cell_of displacement_of v ≡ None
  unfolding word_of
  index_out by_IX w = w
  index_out by_IY w = w
  index_out by_SP w = w

  out-begins : {us : List Token} {o : Written} → OperandText line us o → word_of o ≡ None → (rest : List Token)
      → NumberStarts us (number_start_in (us ++ rest))
  unfolding word_of
  out-begins (G.immediate {m} e u) w rest = value-last kept_of m rest e u w
  out-begins (G.register e n) w rest = held w refl
  out-begins (G.memory {m} e u) w rest = value-last kept_of m rest e u w
  out-begins (G.indirect ea ed n ez) w rest = held w refl
  out-begins (G.indexed m a d t z e u ea ed n i ez) w rest = value-behind displacement_of m (a ∷ d ∷ t ∷ z ∷ []) rest e u (index_out i w)
  out-begins (G.relative {m} e u) w rest = value-last displacement_of m rest e u w

  -- ---- the i-th operand

  abbrev row_at : ℕ → List Token → List Token
  row_at zero ts = []
  row_at (suc i) ts = after_commas i ts

  abbrev placed_at : List Written → ℕ → Written
  placed_at os zero = Absent
  placed_at os (suc i) = operand_at os i

  -- it begins the row behind so many commas
  there-row : {ts us : List Token} {i : ℕ} {o : Written} → OperandThere line ts i us o → (rest : List Token) × (row_at i ts ≡ us ++ rest)
  unfolding after_commas
  there-row (alone {ts} u) = ([], sym (append-nil ts))
  there-row (first {us = us} c u e r) = (c ∷ us, refl)
  there-row (later {i = i} c u e r) = let h = there-row r in (h.0, ap (after_commas i) (behind_it c u e) ∙ h.1)

  there-text : {ts us : List Token} {i : ℕ} {o : Written} → OperandThere line ts i us o → OperandText line us o
  there-text (alone u) = u
  there-text (first c u e r) = u
  there-text (later c u e r) = there-text r

  -- it is the i-th of a reading
  there-read : {ts us : List Token} {i : ℕ} {o : Written} → OperandThere line ts i us o
      → (os : List Written) × Operands line ts os × (placed_at os i ≡ o)
  there-read (alone {o = o} u) = (o ∷ [], one u, refl)
  there-read (first {o = o} {os = os} c u e r) = (o ∷ os, more c u e r, refl)
  there-read (later {o = o} c u e r) = let h = there-read r in (o ∷ h.0, more c u e h.1, h.2)

  same-there : {ts us : List Token} {os : List Written} {i : ℕ} {o : Written} → OperandField line ts os → OperandThere line ts i us o
      → placed_at os i ≡ o
  same-there {i = i} r u =
      let h = there-read u in
      ap (λ (os : List Written). placed_at os i) (once line r (some h.1)) ∙ h.2

  -- each of a reading is there
  each-there : {ts : List Token} {os : List Written} → Operands line ts os → (i : ℕ) → i < length os
      → (us : List Token) × OperandThere line ts (suc i) us (operand_at os i)
  each-there (one {ts} u) zero l = (ts, alone u)
  each-there (one {ts} u) (suc i) l = absurd (omega arith)
  each-there (more {ts} c u e r) zero l = (ts, first c u e r)
  each-there (more {ts} c u e r) (suc i) l = let h = each-there r i (omega arith) in (h.0, later c u e h.1)

  field_there : {ts : List Token} {os : List Written} → OperandField line ts os → (i : ℕ) → i < length os
      → (us : List Token) × OperandThere line ts (suc i) us (operand_at os i)
  field_there none i l = absurd (omega arith)
  field_there (some r) i l = each-there r i l

  -- ---- where it starts

  pub operand_start_exactly : {ts : List Token} {os : List Written} → OperandField line ts os → (i : ℕ) → i < length os → {p : ℕ}
      → (operand_start_in ts (suc i) ≡ p) ↔ OperandStart line ts (suc i) p
  unfolding operand_start_in
  operand_start_exactly {ts} {os} r i l {p} = (there, back)
    where
      there : start_of (after_commas i ts) ≡ p → OperandStart line ts (suc i) p
      there e =
          let h = field_there r i l in
          let w = there-row h.1 in
          let b = begins (there-text h.1) w.0 in
          record { tokens = h.0; operand = operand_at os i; there = h.1; starts = subst (Starts h.0) (ap start_of (sym w.1) ∙ e) b }

      back : OperandStart line ts (suc i) p → start_of (after_commas i ts) ≡ p
      back h = let w = there-row h.there in ap start_of w.1 ∙ starts_of h.starts w.0

  -- ---- the first number out of range

  -- an operand out of range is there
  out-there : (os : List Written) (i : ℕ) → word_of (operand_at os i) ≡ None → i < length os
  unfolding word_of
  out-there [] i w = held w refl
  out-there (o ∷ os) zero w = omega arith
  out-there (o ∷ os) (suc i) w = omega (arith, out-there os i w)

  -- what its number's place is
  number-there : {ts : List Token} {os : List Written} → OperandField line ts os → (i : ℕ) → word_of (operand_at os i) ≡ None
      → NumberAt line ts (suc i) (operand_at os i) (number_start_in (after_commas i ts))
  number-there {ts} {os} r i e =
      let h = field_there r i (out-there os i e) in
      let w = there-row h.1 in
      record { tokens = h.0; there = h.1; starts = subst (NumberStarts h.0) (ap number_start_in (sym w.1)) (out-begins (there-text h.1) e w.0) }

  number-back : {ts : List Token} {i p : ℕ} {o : Written} → NumberAt line ts (suc i) o p → number_start_in (after_commas i ts) ≡ p
  number-back h = let w = there-row h.there in ap number_start_in w.1 ∙ number_starts_of h.starts w.0

  module _ {ts : List Token} {os : List Written} (r : OperandField line ts os) where
    out_is : number_out_in line ts ≡ out_by ts (word_of (operand_at os 0)) (word_of (operand_at os 1))
    unfolding number_out_in
    out_is = ap (out_of ts) (field_complete line r)

    pub number_out_exactly : (word_of (operand_at os 0) ≡ None) ⊎ (word_of (operand_at os 1) ≡ None) → {p : ℕ}
        → (number_out_in line ts ≡ p) ↔ NumberOut line ts p
    unfolding after_commas
    number_out_exactly out {p} = (λ e. there (word_of (operand_at os 0)) refl out (sym out_is ∙ e), back)
      where
        there : (k : Option ℕ) → word_of (operand_at os 0) ≡ k → (word_of (operand_at os 0) ≡ None) ⊎ (word_of (operand_at os 1) ≡ None)
            → out_by ts k (word_of (operand_at os 1)) ≡ p → NumberOut line ts p
        there None q h e = in_first (subst (NumberAt line ts 1 (operand_at os 0)) e (number-there r 0 q)) q
        there (Some w) q (inl h) e = held h q
        there (Some w) q (inr h) e =
            let l = out-there os 1 h in
            let f : number_start_in (after_comma ts) ≡ p = rw h at e in
            in_second (field_there r 0 (omega (arith, l))).1 q (subst (NumberAt line ts 2 (operand_at os 1)) f (number-there r 1 h)) h

        back : NumberOut line ts p → number_out_in line ts ≡ p
        back (in_first h e) =
            let f : word_of (operand_at os 0) ≡ None = ap word_of (same-there r h.there) ∙ e in
            out_is ∙ rw f (number-back h)
        back (in_second u q h e) =
            let f : word_of (operand_at os 0) ≡ _ = ap word_of (same-there r u) ∙ q in
            let g : word_of (operand_at os 1) ≡ None = ap word_of (same-there r h.there) ∙ e in
            out_is ∙ rw (f, g) (number-back h)

    pub number_out_none : {v w : ℕ} → word_of (operand_at os 0) ≡ Some v → word_of (operand_at os 1) ≡ Some w → number_out_in line ts ≡ 0
    number_out_none e f = out_is ∙ rw (e, f)
