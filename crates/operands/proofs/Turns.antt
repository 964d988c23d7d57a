-- One token of the code is one turn of the walk.
use Prim.Native.Nat.{ℕ, ◌≤◌, ◌<◌}
use Prim.Native.Char.{code}
use mathlib.Core.Bool.{Bool, true, false, cond}
use mathlib.Core.List.{List, ◌∷◌}
use mathlib.Core.Path.{◌≡◌, refl, sym, ap, subst, ◌∙◌}
use native.Mathlib.Omega.{arith}
use lib.ListN.{length}
use Rattle.numerals.specs.declared.Cursor.{Cursor}
use Rattle.numerals.specs.declared.Numeral.{Numeral}
use Rattle.codes.specs.Registers.{is_register}
use Rattle.tokens.specs.Marks.{IsMark, on_mark, mark_by, mark_of}
use Rattle.tokens.specs.Reading.{token_at, tokens_from}
use Rattle.tokens.specs.declared.Kind.{Kind}
use Rattle.tokens.specs.declared.Kind.TheVariants as K
use Rattle.std.proofs.Common.{Option, Some, None}
use Rattle.numerals.specs.Reading.{upto}
use Rattle.numerals.specs.declared.Read.{Read}
use Rattle.tokens.specs.declared.Token.{Token}
use Rattle.tokens.proofs.Places.{token_placed}
use Rattle.values.specs.Values.{numeral, BelowZero, name_at}
use Rattle.values.specs.Reading.{digits_by, minus_at, value_at}
use Rattle.values.specs.declared.Value.{Value}
use Rattle.values.specs.declared.Value.TheVariants.{Number, Label}
use Rattle.tokens.proofs.Heads.{row_of, ends_of}
use Rattle.values.proofs.Walks as Walks
use Rattle.values.proofs.Walks.{turned}
use Rattle.values.proofs.Begins.{value_cases, digits_cases, digits-read, digits-row}
use Rattle.operands.specs.Reading.{Shape, State, operand, value, digits, put, Step, to, halt, RowRead, wrong, on_word, finish, code_at, step, walk}
use Rattle.operands.specs.Inner.Peeks.{register_by, register_of, stepped}

-- what the answer for a value says of the walk
abbrev pub value_on : List ℕ → Shape → Option (Read Value) → RowRead
value_on s k (Some r) = walk s (put k r.value) (tokens_from s r.next.at)
value_on s k None = wrong

abbrev pub ValueOnward : ℕ → Option (Read Value) → Type 0
ValueOnward at (Some r) = at ≤ r.next.at
ValueOnward at None = Unit

module _ (s : List ℕ) (at : ℕ) where
  -- ---- a token that the walk takes, and one that it does not

  pub taken : (st x : State) (ts : List Token) → tokens_from s at ≡ token_at s at ∷ ts → step s st (token_at s at) ≡ to x
      → walk s st (tokens_from s at) ≡ walk s x ts
  unfolding walk
  taken st x ts e h = turned operand (step s) finish s at st e h

  pub halted : (st : State) → finish st ≡ wrong → step s st (token_at s at) ≡ halt → walk s st (tokens_from s at) ≡ wrong
  unfolding walk
  halted st z h = Walks.halted operand (step s) finish s at st z h

  -- ---- marks

  marked : (k : Kind) (n : Cursor) (r : Read ℕ) → mark_by k n ≡ Some r → (k ≡ K.Mark r.value) × (n ≡ r.next)
  marked K.End n r e = let z : ◌≡◌ {A = ℕ} 0 1 = cc in absurd (omega arith)
  marked K.Stray n r e = let z : ◌≡◌ {A = ℕ} 0 1 = cc in absurd (omega arith)
  marked K.Word n r e = let z : ◌≡◌ {A = ℕ} 0 1 = cc in absurd (omega arith)
  marked (K.Number v h) n r e = let z : ◌≡◌ {A = ℕ} 0 1 = cc in absurd (omega arith)
  marked K.Text n r e = let z : ◌≡◌ {A = ℕ} 0 1 = cc in absurd (omega arith)
  marked (K.Mark x) n r e =
      let q : upto x n ≡ r = cc in
      (ap (λ (r : Read ℕ). K.Mark r.value) q, ap (λ (r : Read ℕ). r.next) q)

  -- a mark: the row is it and the row after it
  pub mark-row : (r : Read ℕ) → mark_of (token_at s at) ≡ Some r
      → (tokens_from s at ≡ token_at s at ∷ tokens_from s r.next.at) × ((token_at s at).kind ≡ K.Mark r.value) × (at < r.next.at) × (r.next.at ≤ length s)
  mark-row r e =
      let m = marked (token_at s at).kind (token_at s at).next r e in
      let q : (token_at s at).next.at ≡ r.next.at = ap (λ (x : Cursor). x.at) m.1 in
      let g = ends_of s at m.0 in
      let p = (token_placed s at).starts in
      (row_of s at m.0 ∙ ap (λ (n : ℕ). token_at s at ∷ tokens_from s n) q, m.0, omega arith, omega arith)

  module _ (st : State) (f : ℕ → Step) (p : (u : Token) → step s st u ≡ on_mark halt f u.kind) where
    pub on-mark : (r : Read ℕ) → mark_of (token_at s at) ≡ Some r
        → walk s st (tokens_from s at) ≡ stepped (f r.value) (λ x. walk s x (tokens_from s r.next.at))
    unfolding walk
    on-mark r e =
        let h = mark-row r e in
        let q : step s st (token_at s at) ≡ f r.value = p (token_at s at) ∙ ap (λ (k : Kind). on_mark halt f k) h.1 in
        rw h.0 (ap (λ (x : Step). stepped x (λ y. walk s y (tokens_from s r.next.at))) q)

    -- no mark, where only a mark may be
    pub off_mark : finish st ≡ wrong → mark_of (token_at s at) ≡ None → walk s st (tokens_from s at) ≡ wrong
    off_mark z e = halted st z (p (token_at s at) ∙ go (token_at s at).kind e)
      where
        go : (k : Kind) → mark_by k (token_at s at).next ≡ None → on_mark halt f k ≡ halt
        go K.End e = refl
        go K.Stray e = refl
        go K.Word e = refl
        go (K.Number v h) e = refl
        go K.Text e = refl
        go (K.Mark b) e = let z : ◌≡◌ {A = ℕ} 0 1 = cc in absurd (omega arith)

  -- ---- words, and registers' names

  named_is : (k : Kind) (x : ℕ) (n : Cursor) (r : Read ℕ) → register_by x k n ≡ Some r
      → (k ≡ K.Word) × (x ≡ r.value) × (n ≡ r.next) × (is_register r.value ≡ true)
  named_is K.End x n r e = let z : ◌≡◌ {A = ℕ} 0 1 = cc in absurd (omega arith)
  named_is K.Stray x n r e = let z : ◌≡◌ {A = ℕ} 0 1 = cc in absurd (omega arith)
  named_is K.Word x n r e = go (is_register x) refl e
    where
      go : (b : Bool) → is_register x ≡ b → cond b (Some (upto x n)) None ≡ Some r
          → (K.Word ≡ K.Word) × (x ≡ r.value) × (n ≡ r.next) × (is_register r.value ≡ true)
      go true q e =
          let w : upto x n ≡ r = cc in
          let y : x ≡ r.value = ap (λ (r : Read ℕ). r.value) w in
          (refl, y, ap (λ (r : Read ℕ). r.next) w, ap is_register (sym y) ∙ q)
      go false q e = let z : ◌≡◌ {A = ℕ} 0 1 = cc in absurd (omega arith)
  named_is (K.Number v h) x n r e = let z : ◌≡◌ {A = ℕ} 0 1 = cc in absurd (omega arith)
  named_is K.Text x n r e = let z : ◌≡◌ {A = ℕ} 0 1 = cc in absurd (omega arith)
  named_is (K.Mark b) x n r e = let z : ◌≡◌ {A = ℕ} 0 1 = cc in absurd (omega arith)

  module _ (st : State) (f : ℕ → Step) (p : (u : Token) → step s st u ≡ on_word (f (code_at s u)) u.kind) where
    pub on_name : (r : Read ℕ) → register_of s (token_at s at) ≡ Some r
        → (walk s st (tokens_from s at) ≡ stepped (f r.value) (λ y. walk s y (tokens_from s r.next.at))) × (at < r.next.at) × (is_register r.value ≡ true)
    unfolding walk
    on_name r e =
        let m = named_is (token_at s at).kind (code_at s (token_at s at)) (token_at s at).next r e in
        let q : (token_at s at).next.at ≡ r.next.at = ap (λ (y : Cursor). y.at) m.2 in
        let w : tokens_from s at ≡ token_at s at ∷ tokens_from s r.next.at = row_of s at m.0 ∙ ap (λ (n : ℕ). token_at s at ∷ tokens_from s n) q in
        let g = ends_of s at m.0 in
        let l = (token_placed s at).starts in
        let z : step s st (token_at s at) ≡ f r.value = p (token_at s at) ∙ ap (λ (k : Kind). on_word (f (code_at s (token_at s at))) k) m.0 ∙ ap f m.1 in
        (rw w (ap (λ (y : Step). stepped y (λ y. walk s y (tokens_from s r.next.at))) z), omega arith, m.3)

    -- no register's name, where only one may be
    pub off_name : finish st ≡ wrong → ((r : ℕ) → is_register r ≡ false → f r ≡ halt) → register_of s (token_at s at) ≡ None
        → walk s st (tokens_from s at) ≡ wrong
    off_name z w e = halted st z (p (token_at s at) ∙ go (token_at s at).kind e)
      where
        r : ℕ
        r = code_at s (token_at s at)

        go : (k : Kind) → register_by r k (token_at s at).next ≡ None → on_word (f r) k ≡ halt
        go K.End e = refl
        go K.Stray e = refl
        go K.Word e = word (is_register r) refl e
          where
            word : (b : Bool) → is_register r ≡ b → cond b (Some (upto r (token_at s at).next)) None ≡ None → f r ≡ halt
            word true q e = let z : ◌≡◌ {A = ℕ} 0 1 = cc in absurd (omega arith)
            word false q e = w r q
        go (K.Number v h) e = refl
        go K.Text e = refl
        go (K.Mark b) e = refl

-- ---- values

-- a token that moves the walk on lies no further back
onward : (s : List ℕ) (at : ℕ) → at ≤ (token_at s at).next.at
onward s at = omega (arith, (token_placed s at).starts, (token_placed s at).moves)

module _ (s : List ℕ) (at : ℕ) (k : Shape) where
  -- the answer for a value that the walk from a state finds at the place, or from there on
  abbrev Turned : State → Option (Read Value) → Type 0
  Turned st r = (walk s st (tokens_from s at) ≡ value_on s k r) × ValueOnward at r

  -- one token that is a value, and one that is none
  one-turn : (st : State) (v : Value) → tokens_from s at ≡ token_at s at ∷ tokens_from s (token_at s at).next.at → step s st (token_at s at) ≡ to (put k v)
      → Turned st (Some (upto v (token_at s at).next))
  one-turn st v e h = (taken s at st (put k v) (tokens_from s (token_at s at).next.at) e h, onward s at)

  no_turn : (st : State) → finish st ≡ wrong → step s st (token_at s at) ≡ halt → Turned st None
  no_turn st z h = (halted s at st z h, tt)

  -- the digits after a `-`
  digits-turn : Turned (digits k) (minus_at s at)
  unfolding minus_at
  digits-turn =
      digits_cases (token_at s at) below (λ h. subst (Turned (digits k)) (sym (h (Option (Read Value)) found None)) (no_turn (digits k) refl (h Step goes halt)))
    where
      found : Numeral → Option (Read Value)
      found n = Some (upto (Number n) (token_at s at).next)

      goes : Numeral → Step
      goes n = to (put k (Number n))

      below : (n : Numeral) → BelowZero (token_at s at) n → Turned (digits k) (digits_by found None (token_at s at).kind (token_at s at).directly)
      below n b =
          subst (Turned (digits k)) (sym (digits-read found None b)) (one-turn (digits k) (Number n) (digits-row s at b) (digits-read goes halt b))

later : (at n : ℕ) (r : Option (Read Value)) → at ≤ n → ValueOnward n r → ValueOnward at r
later at n (Some r) h o = omega arith
later at n None h o = tt

pub value-turn : (s : List ℕ) (at : ℕ) (k : Shape) → Turned s at k (value k) (value_at s at)
unfolding value_at
value-turn s at k =
    value_cases (token_at s at)
    (λ q. rw q (one-turn s at k (value k) (Label (name_at (token_at s at))) (row_of s at q) (rw q)))
    (λ v x q. rw q (one-turn s at k (value k) (Number (numeral false x v)) (row_of s at q) (rw q)))
    (λ q. rw q (minus q))
    (λ h. subst (Turned s at k (value k)) (sym (h (Option (Read Value)) _ (λ n. (Some (upto (Number n) (token_at s at).next))) (minus_at s (token_at s at).next.at) None))
    (no_turn s at k (value k) refl (h Step _ (λ n. to (put k (Number n))) (to (digits k)) halt)))
  where
    minus : IsMark (code "-") (token_at s at) → Turned s at k (value k) (minus_at s (token_at s at).next.at)
    minus q =
        let next = (token_at s at).next.at in
        let r = digits-turn s next k in
        (taken s at (value k) (digits k) (tokens_from s next) (row_of s at q) (rw q) ∙ r.0, later at next (minus_at s next) (onward s at) r.1)
