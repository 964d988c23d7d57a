-- The walk reads what the rule gives and nothing else.
use Prim.Native.Nat.{ℕ}
use Prim.Native.Char.{code}
use mathlib.Core.Bool.{Bool, true, false, cond}
use mathlib.Core.List.{List, [], ◌∷◌, ◌++◌, append_assoc, append-nil}
use mathlib.Core.Path.{◌≡◌, refl, sym, ap, subst, ◌∙◌}
use native.Mathlib.Omega.{arith}
use lib.Dec.{eqb, T, ltb→lt}
use borrow.Author.Tests.{eqb-true, ne_eqb, lt-ltb}
use Rattle.numerals.specs.declared.Numeral.{Numeral}
use Rattle.codes.specs.Registers.{IX, IY, SP, is_register}
use Rattle.tokens.specs.Marks.{IsMark, on_mark, only}
use Rattle.tokens.specs.Commas.{at_comma}
use Rattle.tokens.specs.declared.Kind.{Kind}
use Rattle.tokens.specs.declared.Kind.TheVariants as K
use Rattle.tokens.specs.declared.Token.{Token}
use Rattle.values.specs.Values.{numeral, BelowZero, name_at, NumberText, plain, minus, ValueText, number, label}
use Rattle.values.specs.Values as Values
use Rattle.values.specs.Reading.{value_by}
use Rattle.values.specs.declared.Value.{Value}
use Rattle.values.specs.declared.Value.TheVariants.{Number, Label}
use Rattle.values.proofs.Walks as Walks
use Rattle.values.proofs.Walks.{never, Each}
use Rattle.values.proofs.Begins.{value_cases, digits_cases, digits-read}
use Rattle.operands.specs.Operands as G
use Rattle.operands.specs.Operands.{Index, by_IX, by_IY, by_SP, RegisterName, OperandText, Operands, one, more, OperandField, none, some}
use Rattle.operands.specs.Reading.{Shape, hash, slash, dollar, State, operand, value, digits, after_hash, index_dot, index_name, register_name, indirect_dot, indirect_name, closing, done, put, Step, to, emit, halt, RowRead, reads, on_word, starts, index_step, cons, finish, code_at, step, walk, operands_of}
use Rattle.operands.specs.Inner.Peeks.{stepped}
use Rattle.operands.specs.declared.Written.{Written}
use Rattle.operands.specs.declared.Written.TheVariants.{Immediate, Register, Memory, Indirect, IndexedX, IndexedY, IndexedSp, Relative}

-- no `[` comes first
abbrev NoOpening : List Token → Type 0
NoOpening [] = Unit
NoOpening (t ∷ ts) = IsMark (code "[") t → ⊥

pub index_steps : {r : ℕ} {v : Value} {o : Written} → Index r v o → index_step v r ≡ to (closing o)
unfolding index_step
index_steps by_IX = refl
index_steps by_IY = refl
index_steps by_SP = refl

module _ (line : List ℕ) where
  -- ---- what the rule gives is read

  number-complete : {us : List Token} {n : Numeral} → NumberText us n → (k : Shape) (rest : List Token)
      → walk line (value k) (us ++ rest) ≡ walk line (put k (Number n)) rest
  unfolding walk
  number-complete (plain e) k rest = rw e
  number-complete (minus m (Values.digits e d)) k rest = rw (m, e, d)

  value-complete : {us : List Token} {v : Value} → ValueText us v → (k : Shape) (rest : List Token)
      → walk line (value k) (us ++ rest) ≡ walk line (put k v) rest
  unfolding walk
  value-complete (number n) k rest = number-complete n k rest
  value-complete (label e) k rest = rw e

  after-hash : (v : Value) (rest : List Token) → NoOpening rest → walk line (after_hash v) rest ≡ walk line (done (Immediate v)) rest
  unfolding walk
  after-hash v [] h = refl
  after-hash v (t ∷ ts) h = go t.kind refl
    where
      go : (k : Kind) → t.kind ≡ k → walk line (after_hash v) (t ∷ ts) ≡ walk line (done (Immediate v)) (t ∷ ts)
      go K.End q = rw q
      go K.Stray q = rw q
      go K.Word q = rw q
      go (K.Number n x) q = rw q
      go K.Text q = rw q
      go (K.Mark b) q = let n : b ≡ code "[" → ⊥ = λ z. h (q ∙ ap K.Mark z) in rw (q, ne_eqb b (code "[") n)

  hash-complete : {us : List Token} {v : Value} (m : Token) → IsMark (code "#") m → ValueText us v → (rest : List Token)
      → walk line operand (m ∷ us ++ rest) ≡ walk line (after_hash v) rest
  unfolding walk starts
  hash-complete m e u rest = rw e (value-complete u hash rest)

  take : (st x : State) (t : Token) (ts : List Token) → step line st t ≡ to x → walk line st (t ∷ ts) ≡ walk line x ts
  unfolding walk
  take st x t ts e = ap (λ (y : Step). stepped y (λ z. walk line z ts)) e

  step-word : (t : Token) (f : ℕ → Step) (r : ℕ) → RegisterName line t r → on_word (f (code_at line t)) t.kind ≡ f r
  step-word t f r n = ap (λ (k : Kind). on_word (f (code_at line t)) k) n.word ∙ ap f n.names

  index_complete : (v : Value) {r : ℕ} {o : Written} (a d t z : Token) (rest : List Token) → IsMark (code "[") a → IsMark (code ".") d
      → RegisterName line t r → Index r v o → IsMark (code "]") z
      → walk line (after_hash v) (a ∷ d ∷ t ∷ z ∷ rest) ≡ walk line (done o) rest
  unfolding walk
  index_complete v {r} {o} a d t z rest ea ed n i ez =
      rw (ea, ed) (take (index_name v) (closing o) t (z ∷ rest) (step-word t (index_step v) r n ∙ index_steps i) ∙ rw ez)

  known-register : {t : Token} {r : ℕ} → RegisterName line t r → is_register r ≡ true
  known-register {r = r} n = lt-ltb r 16 (ltb→lt r 16 n.known)

  operand-complete : {ts : List Token} {o : Written} → OperandText line ts o → (rest : List Token) → NoOpening rest
      → walk line operand (ts ++ rest) ≡ walk line (done o) rest
  unfolding walk starts
  operand-complete (G.immediate {m} {v = v} e u) rest h = hash-complete m e u rest ∙ after-hash v rest h
  operand-complete (G.register {t = t} {r = r} e n) rest h =
      let w : cond {A = Step} (is_register r) (to (done (Register r))) halt ≡ to (done (Register r)) = rw (known-register n) in
      rw e (take register_name (done (Register r)) t rest (step-word t (λ x. cond (is_register x) (to (done (Register x))) halt) r n ∙ w))
  operand-complete (G.memory e u) rest h = rw e (value-complete u slash rest)
  operand-complete (G.indirect {t = t} {z = z} {r = r} ea ed n ez) rest h =
      let w : cond {A = Step} (is_register r) (to (closing (Indirect r))) halt ≡ to (closing (Indirect r)) = rw (known-register n) in
      rw (ea, ed) (take indirect_name (closing (Indirect r)) t (z ∷ rest) (step-word t (λ x. cond (is_register x) (to (closing (Indirect x))) halt) r n ∙ w) ∙ rw ez)
  operand-complete (G.indexed {us} {v} m a d t z e u ea ed n i ez) rest h =
      ap (λ (l : List Token). walk line operand (m ∷ l)) (append_assoc us (a ∷ d ∷ t ∷ z ∷ []) rest)
      ∙ (hash-complete m e u (a ∷ d ∷ t ∷ z ∷ rest) ∙ index_complete v a d t z rest ea ed n i ez)
  operand-complete (G.relative e u) rest h = rw e (value-complete u dollar rest)

  comma : (o : Written) (c : Token) (us : List Token) → IsMark (code ",") c → walk line (done o) (c ∷ us) ≡ cons o (walk line operand us)
  unfolding walk
  comma o c us e = rw e

  pub complete : {ts : List Token} {os : List Written} → Operands line ts os → walk line operand ts ≡ reads os
  unfolding walk
  complete (one {ts} {o} u) = rw (append-nil ts) at (operand-complete u [] tt)
  complete (more {ts} {us} {o} {os} c u e r) =
      operand-complete u (c ∷ us) (λ q. let z : ◌≡◌ {A = ℕ} (code ",") (code "[") = cc in omega arith)
      ∙ comma o c us e ∙ ap (λ (x : RowRead). cons o x) (complete r)

  -- ---- what is read is what the rule gives: what has been passed of an operand, by the state, and what makes it one

  abbrev Put : Shape → Value → List Token → Type 0
  Put hash v cur =
      OperandText line cur (Immediate v)
      × ((a d t z : Token) (r : ℕ) (o : Written) → IsMark (code "[") a → IsMark (code ".") d → RegisterName line t r → Index r v o → IsMark (code "]") z
      → OperandText line (cur ++ a ∷ d ∷ t ∷ z ∷ []) o)
  Put slash v cur = OperandText line cur (Memory v)
  Put dollar v cur = OperandText line cur (Relative v)

  abbrev Passed : State → List Token → Type 0
  Passed operand cur = cur ≡ []
  Passed (value k) cur = (us : List Token) (v : Value) → ValueText us v → Put k v (cur ++ us)
  Passed (digits k) cur = (t : Token) (n : Numeral) → BelowZero t n → Put k (Number n) (cur ++ t ∷ [])
  Passed (after_hash v) cur = Put hash v cur
  Passed (index_dot v) cur =
      (d t z : Token) (r : ℕ) (o : Written) → IsMark (code ".") d → RegisterName line t r → Index r v o → IsMark (code "]") z
      → OperandText line (cur ++ d ∷ t ∷ z ∷ []) o
  Passed (index_name v) cur =
      (t z : Token) (r : ℕ) (o : Written) → RegisterName line t r → Index r v o → IsMark (code "]") z → OperandText line (cur ++ t ∷ z ∷ []) o
  Passed register_name cur = (t : Token) (r : ℕ) → RegisterName line t r → OperandText line (cur ++ t ∷ []) (Register r)
  Passed indirect_dot cur =
      (d t z : Token) (r : ℕ) → IsMark (code ".") d → RegisterName line t r → IsMark (code "]") z → OperandText line (cur ++ d ∷ t ∷ z ∷ []) (Indirect r)
  Passed indirect_name cur = (t z : Token) (r : ℕ) → RegisterName line t r → IsMark (code "]") z → OperandText line (cur ++ t ∷ z ∷ []) (Indirect r)
  Passed (closing o) cur = (z : Token) → IsMark (code "]") z → OperandText line (cur ++ z ∷ []) o
  Passed (done o) cur = OperandText line cur o

  abbrev Stepped : Token → List Token → Step → Type 0
  Stepped t cur x = Walks.Stepped (OperandText line) Passed t cur x

  mark_case : (t : Token) (cur : List Token) (f : ℕ → Step) → ((b : ℕ) → IsMark b t → Stepped t cur (f b)) → Stepped t cur (on_mark halt f t.kind)
  mark_case t cur f h = Walks.mark_case (OperandText line) Passed t cur f h

  is-mark : (t : Token) (b x : ℕ) → IsMark b t → eqb b x ≡ true → IsMark x t
  is-mark t b x e q = e ∙ ap K.Mark (eqb-true b x q)

  only_case : (t : Token) (cur : List Token) (x b : ℕ) (f : Step) → IsMark b t → (IsMark x t → Stepped t cur f) → Stepped t cur (only halt x f b)
  only_case t cur x b f e h = Walks.only_case (OperandText line) Passed t cur x b f e h

  word_case : (t : Token) (cur : List Token) (f : Step) → (t.kind ≡ K.Word → Stepped t cur f) → Stepped t cur (on_word f t.kind)
  word_case t cur f h = go t.kind refl
    where
      go : (k : Kind) → t.kind ≡ k → Stepped t cur (on_word f k)
      go K.End q = tt
      go K.Stray q = tt
      go K.Word q = h q
      go (K.Number n x) q = tt
      go K.Text q = tt
      go (K.Mark x) q = tt

  -- a word that names a register
  name_case : (t : Token) (cur : List Token) (f : Step) → (RegisterName line t (code_at line t) → Stepped t cur f)
      → Stepped t cur (on_word (cond (is_register (code_at line t)) f halt) t.kind)
  name_case t cur f h = word_case t cur (cond (is_register (code_at line t)) f halt) (λ e. go e (is_register (code_at line t)) refl)
    where
      go : t.kind ≡ K.Word → (b : Bool) → is_register (code_at line t) ≡ b → Stepped t cur (cond b f halt)
      go e true q = h (record { word = e; names = refl; known = subst T (sym q) tt })
      go e false q = tt

  -- a word that names an index register
  index_case : (v : Value) (t : Token) (cur : List Token) → Passed (index_name v) cur → t.kind ≡ K.Word → Stepped t cur (index_step v (code_at line t))
  unfolding index_step
  index_case v t cur h e = go (eqb r IX) (eqb r IY) (eqb r SP) refl refl refl
    where
      r : ℕ
      r = code_at line t

      closes : (x : ℕ) (o : Written) → r ≡ x → T (is_register x) → Index x v o → Passed (closing o) (cur ++ t ∷ [])
      closes x o q known i = λ z ez. rw append_assoc (h t z x o (record { word = e; names = q; known = known }) i ez)

      go : (b₁ b₂ b₃ : Bool) → eqb r IX ≡ b₁ → eqb r IY ≡ b₂ → eqb r SP ≡ b₃
          → Stepped t cur (cond b₁ (to (closing (IndexedX v))) (cond b₂ (to (closing (IndexedY v))) (cond b₃ (to (closing (IndexedSp v))) halt)))
      go true b₂ b₃ q₁ q₂ q₃ = closes IX (IndexedX v) (eqb-true r IX q₁) tt by_IX
      go false true b₃ q₁ q₂ q₃ = closes IY (IndexedY v) (eqb-true r IY q₂) tt by_IY
      go false false true q₁ q₂ q₃ = closes SP (IndexedSp v) (eqb-true r SP q₃) tt by_SP
      go false false false q₁ q₂ q₃ = tt

  put-passed : (k : Shape) (v : Value) (cur : List Token) → Put k v cur → Passed (put k v) cur
  put-passed hash v cur h = h
  put-passed slash v cur h = h
  put-passed dollar v cur h = h

  start_case : (t : Token) (b : ℕ) → IsMark b t → Stepped t [] (starts b)
  unfolding starts
  start_case t b e = go (eqb b (code "#")) (eqb b (code ".")) (eqb b (code "/")) (eqb b (code "[")) (eqb b (code "$")) refl refl refl refl refl
    where
      go : (b₁ b₂ b₃ b₄ b₅ : Bool) → eqb b (code "#") ≡ b₁ → eqb b (code ".") ≡ b₂ → eqb b (code "/") ≡ b₃ → eqb b (code "[") ≡ b₄ → eqb b (code "$") ≡ b₅
          → Stepped t []
          (cond b₁ (to (value hash)) (cond b₂ (to register_name) (cond b₃ (to (value slash)) (cond b₄ (to indirect_dot) (cond b₅ (to (value dollar)) halt)))))
      go true b₂ b₃ b₄ b₅ q₁ q₂ q₃ q₄ q₅ =
          let m = is-mark t b (code "#") e q₁ in
          λ us v u. (G.immediate m u, λ a d r z n o ea ed nm i ez. G.indexed t a d r z m u ea ed nm i ez)
      go false true b₃ b₄ b₅ q₁ q₂ q₃ q₄ q₅ = λ r x n. G.register (is-mark t b (code ".") e q₂) n
      go false false true b₄ b₅ q₁ q₂ q₃ q₄ q₅ = λ us v u. G.memory (is-mark t b (code "/") e q₃) u
      go false false false true b₅ q₁ q₂ q₃ q₄ q₅ = λ d r z x ed n ez. G.indirect (is-mark t b (code "[") e q₄) ed n ez
      go false false false false true q₁ q₂ q₃ q₄ q₅ = λ us v u. G.relative (is-mark t b (code "$") e q₅) u
      go false false false false false q₁ q₂ q₃ q₄ q₅ = tt

  value_case : (k : Shape) (t : Token) (cur : List Token) → Passed (value k) cur → Stepped t cur (step line (value k) t)
  value_case k t cur h =
      value_cases t (λ q. by q (one (Label (name_at t)) (label q))) (λ v x q. by q (one (Number (numeral false x v)) (number (plain q))))
      (λ q. by q (minus_case q)) (λ z. subst (Stepped t cur) (sym (z Step _ (λ x. to (put k (Number x))) (to (digits k)) halt)) tt)
    where
      goes : Kind → Step
      goes x = value_by (to (put k (Label (name_at t)))) (λ n. to (put k (Number n))) (to (digits k)) halt x

      by : {x : Kind} → t.kind ≡ x → Stepped t cur (goes x) → Stepped t cur (step line (value k) t)
      by q p = subst (λ (x : Kind). Stepped t cur (goes x)) (sym q) p

      one : (v : Value) → ValueText (t ∷ []) v → Passed (put k v) (cur ++ t ∷ [])
      one v u = put-passed k v (cur ++ t ∷ []) (h (t ∷ []) v u)

      minus_case : IsMark (code "-") t → Passed (digits k) (cur ++ t ∷ [])
      minus_case e u n b =
          subst (λ (l : List Token). Put k (Number n) l) (sym (append_assoc cur (t ∷ []) (u ∷ []))) (h (t ∷ u ∷ []) (Number n) (number (minus e b)))

  digits_case : (k : Shape) (t : Token) (cur : List Token) → Passed (digits k) cur → Stepped t cur (step line (digits k) t)
  digits_case k t cur h = digits_cases t below (λ z. subst (Stepped t cur) (sym (z Step goes halt)) tt)
    where
      goes : Numeral → Step
      goes n = to (put k (Number n))

      below : (n : Numeral) → BelowZero t n → Stepped t cur (step line (digits k) t)
      below n b = subst (Stepped t cur) (sym (digits-read goes halt b)) (put-passed k (Number n) (cur ++ t ∷ []) (h t n b))

  step-passed : (st : State) (t : Token) (cur : List Token) → Passed st cur → Stepped t cur (step line st t)
  step-passed operand t cur h = rw h (mark_case t [] starts (λ b e. start_case t b e))
  step-passed (value k) t cur h = value_case k t cur h
  step-passed (digits k) t cur h = digits_case k t cur h
  step-passed (after_hash v) t cur h =
      mark_case t cur (λ b. cond (eqb b (code "[")) (to (index_dot v)) (at_comma halt (emit (Immediate v)) b)) (λ b e. go b e (eqb b (code "[")) refl)
    where
      go : (b : ℕ) → IsMark b t → (y : Bool) → eqb b (code "[") ≡ y → Stepped t cur (cond y (to (index_dot v)) (at_comma halt (emit (Immediate v)) b))
      go b e true q = λ d u z r o ed n i ez. rw append_assoc (h.1 t d u z r o (is-mark t b (code "[") e q) ed n i ez)
      go b e false q = only_case t cur (code ",") b (emit (Immediate v)) e (λ x. (h.0, x))
  step-passed (index_dot v) t cur h =
      mark_case t cur (only halt (code ".") (to (index_name v)))
      (λ b e. only_case t cur (code ".") b (to (index_name v)) e (λ x u z r o n i ez. rw append_assoc (h t u z r o x n i ez)))
  step-passed (index_name v) t cur h = word_case t cur (index_step v (code_at line t)) (λ e. index_case v t cur h e)
  step-passed register_name t cur h = name_case t cur (to (done (Register (code_at line t)))) (λ n. h t (code_at line t) n)
  step-passed indirect_dot t cur h =
      mark_case t cur (only halt (code ".") (to indirect_name))
      (λ b e. only_case t cur (code ".") b (to indirect_name) e (λ x u z r n ez. rw append_assoc (h t u z r x n ez)))
  step-passed indirect_name t cur h =
      name_case t cur (to (closing (Indirect (code_at line t)))) (λ n z ez. rw append_assoc (h t z (code_at line t) n ez))
  step-passed (closing o) t cur h =
      mark_case t cur (only halt (code "]") (to (done o))) (λ b e. only_case t cur (code "]") b (to (done o)) e (λ x. h t x))
  step-passed (done o) t cur h = Walks.comma_case (OperandText line) Passed t cur o h

  end-sound : (st : State) (cur : List Token) (os : List Written) → Passed st cur → finish st ≡ reads os → Operands line cur os
  end-sound operand cur os h e = absurd (never e)
  end-sound (value k) cur os h e = absurd (never e)
  end-sound (digits k) cur os h e = absurd (never e)
  end-sound (after_hash v) cur os h e = let q : Immediate v ∷ [] ≡ os = cc in rw (← q) (one h.0)
  end-sound (index_dot v) cur os h e = absurd (never e)
  end-sound (index_name v) cur os h e = absurd (never e)
  end-sound register_name cur os h e = absurd (never e)
  end-sound indirect_dot cur os h e = absurd (never e)
  end-sound indirect_name cur os h e = absurd (never e)
  end-sound (closing o) cur os h e = absurd (never e)
  end-sound (done o) cur os h e = let q : o ∷ [] ≡ os = cc in rw (← q) (one h)

  pub sound : (ts : List Token) (os : List Written) → walk line operand ts ≡ reads os → Operands line ts os
  unfolding walk
  sound ts os e =
      Walks.sound operand (step line) finish (OperandText line) (Operands line) (λ ts us o os c u q r. more c u q r) Passed refl (λ t. Unit)
      (λ st t cur w h. step-passed st t cur h) end-sound ts os (each ts) e
    where
      each : (ts : List Token) → Each (λ t. Unit) ts
      each [] = tt
      each (t ∷ ts) = (tt, each ts)

  -- ---- the whole field

  pub field_sound : (ts : List Token) (os : List Written) → operands_of line ts ≡ reads os → OperandField line ts os
  unfolding operands_of
  field_sound [] os e = let q : [] ≡ os = cc in rw (← q) none
  field_sound (t ∷ ts) os e = some (sound (t ∷ ts) os e)

  pub field_complete : {ts : List Token} {os : List Written} → OperandField line ts os → operands_of line ts ≡ reads os
  unfolding operands_of walk
  field_complete none = refl
  field_complete (some {ts} {os} r) = go ts (complete r)
    where
      go : (ts : List Token) → walk line operand ts ≡ reads os → operands_of line ts ≡ reads os
      go [] e = absurd (never e)
      go (t ∷ ts) e = e

  pub once : {ts : List Token} {os os' : List Written} → OperandField line ts os → OperandField line ts os' → os ≡ os'
  once r q = let e = field_complete r in let f = field_complete q in cc
