-- Walks over the tokens of a list that commas part: a turn of the walk at a place of a line, and what a walk that reads has passed.
use Prim.Native.Nat.{ℕ}
use Prim.Native.Char.{code}
use mathlib.Core.Bool.{Bool, true, false, cond}
use mathlib.Core.List.{List, [], ◌∷◌, ◌++◌, append_assoc, append-nil}
use mathlib.Core.Path.{◌≡◌, refl, ap, ◌∙◌}
use native.Mathlib.Omega.{arith}
use lib.Dec.{eqb}
use borrow.Author.Tests.{eqb-true}
use Rattle.tokens.specs.Marks.{IsMark, on_mark, only}
use Rattle.tokens.specs.Reading.{token_at, tokens_from}
use Rattle.tokens.specs.Commas.{on_comma, follows_by, follows_of}
use Rattle.tokens.specs.declared.Follows.{Follows}
use Rattle.tokens.specs.declared.Follows.TheVariants.{Comma, Over, Neither}
use Rattle.tokens.specs.declared.Kind.{Kind}
use Rattle.tokens.specs.declared.Kind.TheVariants as K
use Rattle.tokens.specs.declared.Token.{Token}
use Rattle.values.specs.Walks.{Step, to, emit, halt, RowRead, reads, wrong, cons, stepped, walk}
use Rattle.tokens.proofs.Heads.{row_of}

module _ {A : Type 0} where
  pub never : {xs : List A} → ◌≡◌ {A = RowRead A} wrong (reads xs) → ⊥
  never e = let z : ◌≡◌ {A = ℕ} 0 1 = cc in omega arith

  pub un_cons : (a : A) (r : RowRead A) {xs : List A} → cons a r ≡ reads xs → (us : List A) × (r ≡ reads us) × (xs ≡ a ∷ us)
  un_cons a (reads us) e = (us, refl, cc)
  un_cons a wrong e = absurd (never e)

-- ---- a turn of the walk

module _ {S A : Type 0} (begin : S) (step : S → Token → Step S A) (finish : S → RowRead A) (s : List ℕ) where
  abbrev from : S → ℕ → RowRead A
  from st at = walk begin step finish st (tokens_from s at)

  -- what follows one that is finished
  abbrev pub follows_on : A → Follows → RowRead A
  follows_on a (Comma c) = cons a (from begin c.at)
  follows_on a Over = reads (a ∷ [])
  follows_on a Neither = wrong

  module _ (at : ℕ) (st : S) where
    -- a token that the walk takes
    pub turned : {x : Step S A} {ts : List Token} → tokens_from s at ≡ token_at s at ∷ ts → step st (token_at s at) ≡ x
        → from st at ≡ stepped begin x (λ next. walk begin step finish next ts)
    turned {ts = ts} e h =
        ap (walk begin step finish st) e ∙ ap (λ (y : Step S A). stepped begin y (λ next. walk begin step finish next ts)) h

    -- a token that it does not take
    pub halted : finish st ≡ wrong → step st (token_at s at) ≡ halt → from st at ≡ wrong
    halted z h = go (token_at s at).kind refl
      where
        go : (k : Kind) → (token_at s at).kind ≡ k → from st at ≡ wrong
        go K.End q = ap (walk begin step finish st) (row_of s at q) ∙ z
        go K.Stray q = turned (row_of s at q) h
        go K.Word q = turned (row_of s at q) h
        go (K.Number v k) q = turned (row_of s at q) h
        go K.Text q = turned (row_of s at q) h
        go (K.Mark b) q = turned (row_of s at q) h

    -- one that is finished: a comma, the end, or neither
    module _ (a : A) (z : finish st ≡ reads (a ∷ [])) (p : step st (token_at s at) ≡ on_comma halt (emit a) (token_at s at).kind) where
      pub finished : from st at ≡ follows_on a (follows_of (token_at s at))
      finished = go (token_at s at).kind refl
        where
          by : {k : Kind} → (token_at s at).kind ≡ k → step st (token_at s at) ≡ on_comma halt (emit a) k
          by q = p ∙ ap (on_comma halt (emit a)) q

          mark : (b : ℕ) (y : Bool) → (token_at s at).kind ≡ K.Mark b → eqb b (code ",") ≡ y
              → from st at ≡ follows_on a (cond y (Comma (token_at s at).next) Neither)
          mark b true q e = turned {x = emit a} (row_of s at q) (by q ∙ rw e)
          mark b false q e = turned {x = halt} (row_of s at q) (by q ∙ rw e)

          go : (k : Kind) → (token_at s at).kind ≡ k → from st at ≡ follows_on a (follows_by k (token_at s at).next)
          go K.End q = ap (walk begin step finish st) (row_of s at q) ∙ z
          go K.Stray q = turned (row_of s at q) (by q)
          go K.Word q = turned (row_of s at q) (by q)
          go (K.Number v k) q = turned (row_of s at q) (by q)
          go K.Text q = turned (row_of s at q) (by q)
          go (K.Mark b) q = mark b (eqb b (code ",")) q refl

-- ---- what is read, the rule gives

-- Text is the rule for one. Passed says, by the state, what has been passed of one: what may be next makes it one.
module _ {S A : Type 0} (Text : List Token → A → Type 0) (Passed : S → List Token → Type 0) (t : Token) (cur : List Token) where
  abbrev pub Stepped : Step S A → Type 0
  Stepped (to st) = Passed st (cur ++ t ∷ [])
  Stepped (emit a) = Text cur a × IsMark (code ",") t
  Stepped halt = Unit

  pub mark_case : (f : ℕ → Step S A) → ((b : ℕ) → IsMark b t → Stepped (f b)) → Stepped (on_mark halt f t.kind)
  mark_case f h = go t.kind refl
    where
      go : (k : Kind) → t.kind ≡ k → Stepped (on_mark halt f k)
      go K.End q = tt
      go K.Stray q = tt
      go K.Word q = tt
      go (K.Number n x) q = tt
      go K.Text q = tt
      go (K.Mark b) q = h b q

  pub only_case : (x b : ℕ) (f : Step S A) → IsMark b t → (IsMark x t → Stepped f) → Stepped (only halt x f b)
  only_case x b f e h = go (eqb b x) refl
    where
      go : (y : Bool) → eqb b x ≡ y → Stepped (cond y f halt)
      go true q = h (e ∙ ap K.Mark (eqb-true b x q))
      go false q = tt

  pub comma_case : (a : A) → Text cur a → Stepped (on_comma halt (emit a) t.kind)
  comma_case a h = mark_case (only halt (code ",") (emit a)) (λ b e. only_case (code ",") b (emit a) e (λ q. (h, q)))

-- what is known of each token of a row
abbrev pub Each : (Token → Type 0) → List Token → Type 0
Each Known [] = Unit
Each Known (t ∷ ts) = Known t × Each Known ts

-- Listed is the rule for the list. What has been passed stays passed at each step, and the end makes a list of it.
module _ {S A : Type 0} (begin : S) (step : S → Token → Step S A) (finish : S → RowRead A) (Text : List Token → A → Type 0)
    (Listed : List Token → List A → Type 0)
    (more : (ts us : List Token) (a : A) (xs : List A) (c : Token) → Text ts a → IsMark (code ",") c → Listed us xs → Listed (ts ++ c ∷ us) (a ∷ xs))
    (Passed : S → List Token → Type 0) (none : Passed begin []) (Known : Token → Type 0)
    (passes : (st : S) (t : Token) (cur : List Token) → Known t → Passed st cur → Stepped Text Passed t cur (step st t))
    (ends : (st : S) (cur : List Token) (xs : List A) → Passed st cur → finish st ≡ reads xs → Listed cur xs) where
  walk-sound : (ts : List Token) (st : S) (cur : List Token) (xs : List A) → Each Known ts → Passed st cur → walk begin step finish st ts ≡ reads xs
      → Listed (cur ++ ts) xs
  walk-sound [] st cur xs w h e = rw (append-nil cur) (ends st cur xs h e)
  walk-sound (t ∷ ts) st cur xs w h e =
      go (step st t) (passes st t cur w.0 h) e (λ st' cur' xs' h' e'. walk-sound ts st' cur' xs' w.1 h' e')
    where
      go : (x : Step S A) → Stepped Text Passed t cur x → stepped begin x (λ y. walk begin step finish y ts) ≡ reads xs
          → ((st' : S) (cur' : List Token) (xs' : List A) → Passed st' cur' → walk begin step finish st' ts ≡ reads xs' → Listed (cur' ++ ts) xs')
          → Listed (cur ++ t ∷ ts) xs
      go (to st') c e f = rw append_assoc at (f st' (cur ++ t ∷ []) xs c e)
      go (emit a) c e f =
          let u = un_cons a (walk begin step finish begin ts) e in
          rw u.2 (more cur ts a u.0 t c.0 c.1 (f begin [] u.0 none u.1))
      go halt c e f = absurd (never e)

  pub sound : (ts : List Token) (xs : List A) → Each Known ts → walk begin step finish begin ts ≡ reads xs → Listed ts xs
  sound ts xs w e = walk-sound ts begin [] xs w none e
