-- What each outcome of a function of shapes.rt says of the walk.
use Prim.Native.Nat.{ℕ, ◌≤◌}
use Prim.Native.Char.{code}
use mathlib.Core.Bool.{Bool, true, false, cond}
use mathlib.Core.List.{List}
use mathlib.Core.Logic.{◌⊎◌, inl, inr}
use mathlib.Core.Path.{◌≡◌, refl, sym, ap, ap₂, subst, ◌∙◌}
use native.Mathlib.Omega.{arith}
use lib.Dec.{eqb}
use borrow.Author.Tests.{eq-eqb, ne_eqb, eqb-true, eqb-false, ltb-false}
use Rattle.numerals.specs.declared.Cursor.{Cursor}
use Rattle.codes.specs.Registers.{IX, IY, SP, is_register}
use Rattle.tokens.specs.Marks.{on_mark, only, mark_by, mark_of}
use Rattle.tokens.specs.Reading.{token_at, tokens_from}
use Rattle.tokens.specs.Commas.{at_comma}
use Rattle.tokens.specs.declared.Kind.{Kind}
use Rattle.tokens.specs.declared.Kind.TheVariants as K
use Rattle.std.proofs.Common.{Option, Some, None}
use Rattle.numerals.specs.Reading.{upto}
use Rattle.numerals.specs.declared.Read.{Read}
use Rattle.tokens.specs.declared.Token.{Token}
use Rattle.values.specs.Reading.{value_at}
use Rattle.values.specs.declared.Value.{Value}
use Rattle.tokens.proofs.Heads.{row_of}
use Rattle.operands.specs.Operands.{Index}
use Rattle.operands.specs.Reading.{Shape, hash, put, State, operand, value, after_hash, index_dot, index_name, register_name, indirect_dot, indirect_name, closing, done, Step, to, emit, halt, wrong, on_word, starts, index_step, finish, code_at, step, walk}
use Rattle.operands.specs.Inner.Peeks.{register_of, behind_mark, stepped, Onward, Goes}
use Rattle.operands.specs.declared.Written.{Written}
use Rattle.operands.specs.declared.Written.TheVariants.{Immediate, Register, Indirect}
use Rattle.operands.proofs.Readings.{index_steps}
use Rattle.operands.proofs.Turns.{ValueOnward, value_on, value-turn, mark-row, on-mark, off_mark, on_name, off_name}

later : (at n : ℕ) (r : Option (Read Written)) → at ≤ n → Onward n r → Onward at r
later at n (Some r) h k = omega arith
later at n None h k = tt

-- an operand that is read goes on behind itself
pub read_on : (s : List ℕ) (o : Written) (c : Cursor) → Goes s (done o) c.at (Some (upto o c))
read_on s o c = record { same = refl; on = omega arith }

-- ---- a mark that is looked for

stands : (x : ℕ) (m : Option (Read ℕ)) {c : Cursor} → behind_mark x m ≡ Some c → m ≡ Some (upto x c)
stands x None e = let z : ◌≡◌ {A = ℕ} 0 1 = cc in absurd (omega arith)
stands x (Some r) {c} e = go (eqb r.value x) refl e
  where
    go : (b : Bool) → eqb r.value x ≡ b → cond b (Some r.next) None ≡ Some c → Some r ≡ Some (upto x c)
    go true q e =
        let n : r.next ≡ c = cc in
        let v : r.value ≡ x = eqb-true r.value x q in
        ap₂ (λ (v : ℕ) (n : Cursor). Some (upto v n)) v n
    go false q e = let z : ◌≡◌ {A = ℕ} 0 1 = cc in absurd (omega arith)

-- no mark, or another
abbrev AnotherMark : ℕ → Option (Read ℕ) → Type 0
AnotherMark x m = (m ≡ None) ⊎ ((r : Read ℕ) × (m ≡ Some r) × (r.value ≡ x → ⊥))

stands_not : (x : ℕ) (m : Option (Read ℕ)) → behind_mark x m ≡ None → AnotherMark x m
stands_not x None e = inl refl
stands_not x (Some r) e = go (eqb r.value x) refl e
  where
    go : (b : Bool) → eqb r.value x ≡ b → cond b (Some r.next) None ≡ None → AnotherMark x (Some r)
    go true q e = let z : ◌≡◌ {A = ℕ} 0 1 = cc in absurd (omega arith)
    go false q e = inr (r, refl, eqb-false r.value x q)

module _ (s : List ℕ) (at : ℕ) where
  -- ---- values

  found_on : (k : Shape) {r : Read Value} → value_at s at ≡ Some r
      → (walk s (value k) (tokens_from s at) ≡ value_on s k (Some r)) × (at ≤ r.next.at)
  found_on k e =
      let h = value-turn s at k in
      (h.0 ∙ ap (λ (o : Option (Read Value)). value_on s k o) e, subst (λ (o : Option (Read Value)). ValueOnward at o) e h.1)

  pub value_ends : (k : Shape) {r : Read Value} {o : Written} → value_at s at ≡ Some r → put k r.value ≡ done o
      → Goes s (value k) at (Some (upto o r.next))
  value_ends k {r} e w = let h = found_on k e in record { same = h.0 ∙ ap (λ (x : State). walk s x (tokens_from s r.next.at)) w; on = h.1 }

  pub hash_is : {r : Read Value} {o : Option (Read Written)} → value_at s at ≡ Some r → Goes s (after_hash r.value) r.next.at o → Goes s (value hash) at o
  hash_is {r} {o} e g = let h = found_on hash e in record { same = h.0 ∙ g.same; on = later at r.next.at o h.1 g.on }

  pub value_not : (k : Shape) → value_at s at ≡ None → Goes s (value k) at None
  value_not k e = record { same = (value-turn s at k).0 ∙ ap (λ (o : Option (Read Value)). value_on s k o) e; on = tt }

  -- ---- a state that a mark leads on from

  module _ (st : State) (f : ℕ → Step) (p : (u : Token) → step s st u ≡ on_mark halt f u.kind) where
    pub mark_is : {r : Read ℕ} {o : Option (Read Written)} (y : State) → mark_of (token_at s at) ≡ Some r → f r.value ≡ to y → Goes s y r.next.at o → Goes s st at o
    mark_is {r} {o} y e w g =
        record {
          same = on-mark s at st f p r e ∙ ap (λ (z : Step). stepped z (λ v. walk s v (tokens_from s r.next.at))) w ∙ g.same;
          on = later at r.next.at o (omega (arith, (mark-row s at r e).2)) g.on;
        }

    pub mark_no : {r : Read ℕ} → mark_of (token_at s at) ≡ Some r → f r.value ≡ halt → Goes s st at None
    mark_no {r} e w =
        record { same = on-mark s at st f p r e ∙ ap (λ (z : Step). stepped z (λ v. walk s v (tokens_from s r.next.at))) w; on = tt }

    pub mark-not : finish st ≡ wrong → mark_of (token_at s at) ≡ None → Goes s st at None
    mark-not z e = record { same = off_mark s at st f p z e; on = tt }

  -- a state that one mark alone leads on from
  module _ (st : State) (x : ℕ) (y : State) (p : (u : Token) → step s st u ≡ on_mark halt (only halt x (to y)) u.kind) where
    pub expect_is : {c : Cursor} {o : Option (Read Written)} → behind_mark x (mark_of (token_at s at)) ≡ Some c → Goes s y c.at o → Goes s st at o
    expect_is e g = mark_is st (only halt x (to y)) p y (stands x (mark_of (token_at s at)) e) (rw (eq-eqb x x refl)) g

    pub expect_not : finish st ≡ wrong → behind_mark x (mark_of (token_at s at)) ≡ None → Goes s st at None
    expect_not z e = go (stands_not x (mark_of (token_at s at)) e)
      where
        go : AnotherMark x (mark_of (token_at s at)) → Goes s st at None
        go (inl q) = mark-not st (only halt x (to y)) p z q
        go (inr h) = mark_no st (only halt x (to y)) p h.1 (rw (ne_eqb h.0.value x h.2))

  -- ---- a state that a register's name leads on from

  module _ (st : State) (f : ℕ → Step) (p : (u : Token) → step s st u ≡ on_word (f (code_at s u)) u.kind) where
    name_is : {r : Read ℕ} {o : Option (Read Written)} (y : State) → register_of s (token_at s at) ≡ Some r → (is_register r.value ≡ true → f r.value ≡ to y)
        → Goes s y r.next.at o
        → Goes s st at o
    name_is {r} {o} y e w g =
        let h = on_name s at st f p r e in
        record {
          same = h.0 ∙ ap (λ (z : Step). stepped z (λ v. walk s v (tokens_from s r.next.at))) (w h.2) ∙ g.same;
          on = later at r.next.at o (omega (arith, h.1)) g.on;
        }

    name_no : {r : Read ℕ} → register_of s (token_at s at) ≡ Some r → f r.value ≡ halt → Goes s st at None
    name_no {r} e w =
        record { same = (on_name s at st f p r e).0 ∙ ap (λ (z : Step). stepped z (λ v. walk s v (tokens_from s r.next.at))) w; on = tt }

    name-not : finish st ≡ wrong → ((r : ℕ) → is_register r ≡ false → f r ≡ halt) → register_of s (token_at s at) ≡ None → Goes s st at None
    name-not z w e = record { same = off_name s at st f p z w e; on = tt }

-- ---- registers

as_register : ℕ → Step
as_register r = cond (is_register r) (to (done (Register r))) halt

as_indirect : ℕ → Step
as_indirect r = cond (is_register r) (to (closing (Indirect r))) halt

no_index : (v : Value) (r : ℕ) → (r ≡ IX → ⊥) → (r ≡ IY → ⊥) → (r ≡ SP → ⊥) → index_step v r ≡ halt
unfolding index_step
no_index v r x y p = rw (ne_eqb r IX x, ne_eqb r IY y, ne_eqb r SP p)

module _ (s : List ℕ) (at : ℕ) where
  pub register_is : {r : Read ℕ} → register_of s (token_at s at) ≡ Some r → Goes s register_name at (Some (upto (Register r.value) r.next))
  unfolding as_register
  register_is {r} e =
      name_is s at register_name as_register (λ u. refl) (done (Register r.value)) e (λ h. rw h) (read_on s (Register r.value) r.next)

  pub register-not : register_of s (token_at s at) ≡ None → Goes s register_name at None
  unfolding as_register
  register-not e = name-not s at register_name as_register (λ u. refl) refl (λ r h. rw h) e

  pub indirect_is : {r : Read ℕ} {o : Option (Read Written)} → register_of s (token_at s at) ≡ Some r
      → Goes s (closing (Indirect r.value)) r.next.at o
      → Goes s indirect_name at o
  unfolding as_indirect
  indirect_is {r} e g = name_is s at indirect_name as_indirect (λ u. refl) (closing (Indirect r.value)) e (λ h. rw h) g

  pub indirect-not : register_of s (token_at s at) ≡ None → Goes s indirect_name at None
  unfolding as_indirect
  indirect-not e = name-not s at indirect_name as_indirect (λ u. refl) refl (λ r h. rw h) e

  -- `.`, and what follows it
  pub indirect_dotted : {c : Cursor} {o : Option (Read Written)} → behind_mark (code ".") (mark_of (token_at s at)) ≡ Some c → Goes s indirect_name c.at o
      → Goes s indirect_dot at o
  indirect_dotted e g = expect_is s at indirect_dot (code ".") indirect_name (λ u. refl) e g

  pub indirect_undotted : behind_mark (code ".") (mark_of (token_at s at)) ≡ None → Goes s indirect_dot at None
  indirect_undotted e = expect_not s at indirect_dot (code ".") indirect_name (λ u. refl) refl e

  -- `]`
  pub closed_is : {o : Written} {c : Cursor} → behind_mark (code "]") (mark_of (token_at s at)) ≡ Some c → Goes s (closing o) at (Some (upto o c))
  closed_is {o} {c} e = expect_is s at (closing o) (code "]") (done o) (λ u. refl) e (read_on s o c)

  pub unclosed : {o : Written} → behind_mark (code "]") (mark_of (token_at s at)) ≡ None → Goes s (closing o) at None
  unclosed {o} e = expect_not s at (closing o) (code "]") (done o) (λ u. refl) refl e

  module _ (v : Value) where
    pub index_dotted : {c : Cursor} {o : Option (Read Written)} → behind_mark (code ".") (mark_of (token_at s at)) ≡ Some c → Goes s (index_name v) c.at o
        → Goes s (index_dot v) at o
    index_dotted e g = expect_is s at (index_dot v) (code ".") (index_name v) (λ u. refl) e g

    pub index_undotted : behind_mark (code ".") (mark_of (token_at s at)) ≡ None → Goes s (index_dot v) at None
    index_undotted e = expect_not s at (index_dot v) (code ".") (index_name v) (λ u. refl) refl e

    pub index_is : {x : ℕ} {r : Read ℕ} {o : Written} {q : Option (Read Written)} → register_of s (token_at s at) ≡ Some r → r.value ≡ x → Index x v o
        → Goes s (closing o) r.next.at q
        → Goes s (index_name v) at q
    index_is {o = o} e q i g = name_is s at (index_name v) (index_step v) (λ u. refl) (closing o) e (λ h. ap (index_step v) q ∙ index_steps i) g

    pub index_no : {r : Read ℕ} → register_of s (token_at s at) ≡ Some r → (r.value ≡ IX → ⊥) → (r.value ≡ IY → ⊥) → (r.value ≡ SP → ⊥)
        → Goes s (index_name v) at None
    index_no {r} e a b d = name_no s at (index_name v) (index_step v) (λ u. refl) e (no_index v r.value a b d)

    pub index_not : register_of s (token_at s at) ≡ None → Goes s (index_name v) at None
    index_not e =
        name-not s at (index_name v) (index_step v) (λ u. refl) refl
        (λ r h. let l : 16 ≤ r = ltb-false r 16 h in no_index v r (λ q. omega arith) (λ q. omega arith) (λ q. omega arith)) e

    -- ---- after `#v`

    hash_rest : ℕ → Step
    hash_rest b = cond (eqb b (code "[")) (to (index_dot v)) (at_comma halt (emit (Immediate v)) b)

    pub rest_index : {c : Cursor} {o : Option (Read Written)} → behind_mark (code "[") (mark_of (token_at s at)) ≡ Some c → Goes s (index_dot v) c.at o
        → Goes s (after_hash v) at o
    unfolding hash_rest
    rest_index e g = mark_is s at (after_hash v) hash_rest (λ u. refl) (index_dot v) (stands (code "[") (mark_of (token_at s at)) e) refl g

    pub rest_not : behind_mark (code "[") (mark_of (token_at s at)) ≡ None → Goes s (after_hash v) at (Some (upto (Immediate v) (record { at = at })))
    unfolding hash_rest walk
    rest_not e = go (stands_not (code "[") (mark_of (token_at s at)) e)
      where
        no_mark : (k : Kind) → (token_at s at).kind ≡ k → mark_by k (token_at s at).next ≡ None
            → walk s (after_hash v) (tokens_from s at) ≡ walk s (done (Immediate v)) (tokens_from s at)
        no_mark K.End q e = rw (row_of s at q)
        no_mark K.Stray q e = rw (row_of s at q, q)
        no_mark K.Word q e = rw (row_of s at q, q)
        no_mark (K.Number n h) q e = rw (row_of s at q, q)
        no_mark K.Text q e = rw (row_of s at q, q)
        no_mark (K.Mark b) q e = let z : ◌≡◌ {A = ℕ} 0 1 = cc in absurd (omega arith)

        another : (r : Read ℕ) → mark_of (token_at s at) ≡ Some r → (r.value ≡ code "[" → ⊥)
            → walk s (after_hash v) (tokens_from s at) ≡ walk s (done (Immediate v)) (tokens_from s at)
        another r e q =
            let w : hash_rest r.value ≡ at_comma halt (emit (Immediate v)) r.value = rw (ne_eqb r.value (code "[") q) in
            on-mark s at (after_hash v) hash_rest (λ u. refl) r e ∙ ap (λ (z : Step). stepped z (λ y. walk s y (tokens_from s r.next.at))) w
            ∙ sym (on-mark s at (done (Immediate v)) (at_comma halt (emit (Immediate v))) (λ u. refl) r e)

        go : AnotherMark (code "[") (mark_of (token_at s at)) → Goes s (after_hash v) at (Some (upto (Immediate v) (record { at = at })))
        go (inl e) = record { same = no_mark (token_at s at).kind refl e; on = omega arith }
        go (inr h) = record { same = another h.0 h.1 h.2; on = omega arith }

  -- ---- what an operand begins with

  pub operand_is : {r : Read ℕ} {o : Option (Read Written)} (y : State) → mark_of (token_at s at) ≡ Some r → starts r.value ≡ to y → Goes s y r.next.at o
      → Goes s operand at o
  operand_is y e w g = mark_is s at operand starts (λ u. refl) y e w g

  pub operand_no : {r : Read ℕ} → mark_of (token_at s at) ≡ Some r → starts r.value ≡ halt → Goes s operand at None
  operand_no e w = mark_no s at operand starts (λ u. refl) e w

  pub operand-not : mark_of (token_at s at) ≡ None → Goes s operand at None
  operand-not e = mark-not s at operand starts (λ u. refl) refl e
