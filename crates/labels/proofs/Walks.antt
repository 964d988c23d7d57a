-- The walk of `find` down a chain: what a chain leads to, what the walk keeps, and where it ends.
use mathlib.Core.Path.{◌≡◌, refl, sym, ap, subst, ◌∙◌}
use mathlib.Core.List.{List, [], ◌∷◌, ◌++◌}
use mathlib.Core.Bool.{Bool, true, false, cond, ◌&&◌, ◌||◌, false≢true}
use Prim.Native.Nat.{ℕ, zero, suc, ◌+◌, ◌-◌, ◌≤◌, ◌<◌}
use native.Mathlib.Omega.{arith}
use lib.Dec.{ltb, eqb}
use lib.ListN.{length, get_or}
use borrow.Author.Tests.{eq-eqb, ne_eqb, eqb-true, eqb-false, ltb-true, ltb-false}
use Rattle.names.specs.Names.{same}
use Rattle.names.proofs.Same.{same_equal}
use Rattle.labels.specs.Inner.Labels.{window, word_by, chain_of, numbers_from, links_from, lasts_from, onward, leads, leads_to, no_word, held_at, listed, words, labels_before}
use Rattle.labels.proofs.Laws.{length-listed}

-- ---- a word's place among the values of a function

module _ (w : List ℕ) where
  -- words behind those that the word is found among, and behind those that it is not
  before-kept : (l m : List (List ℕ)) → labels_before w l < length l → labels_before w (l ++ m) ≡ labels_before w l
  unfolding labels_before
  before-kept [] m h = absurd (omega (arith, h))
  before-kept (x ∷ l) m h = go (same x w) h (before-kept l m)
    where
      go : (b : Bool) → cond b 0 (suc (labels_before w l)) < suc (length l) → (labels_before w l < length l → labels_before w (l ++ m) ≡ labels_before w l)
          → cond b 0 (suc (labels_before w (l ++ m))) ≡ cond b 0 (suc (labels_before w l))
      go true k rest = refl
      go false k rest = ap suc (rest (omega (arith, k)))

  before-all : (l m : List (List ℕ)) → labels_before w l ≡ length l → labels_before w (l ++ m) ≡ length l + labels_before w m
  unfolding labels_before
  before-all [] m h = omega arith
  before-all (x ∷ l) m h = go (same x w) h (before-all l m)
    where
      go : (b : Bool) → cond b 0 (suc (labels_before w l)) ≡ suc (length l)
          → (labels_before w l ≡ length l → labels_before w (l ++ m) ≡ length l + labels_before w m)
          → cond b 0 (suc (labels_before w (l ++ m))) ≡ suc (length l) + labels_before w m
      go true k rest = absurd (omega (arith, k))
      go false k rest = let q = rest (omega (arith, k)) in omega (arith, q)

  module _ (f : ℕ → List ℕ) where
    -- one value more: found before it, here, or not yet
    listed_more : (n r : ℕ) → labels_before w (listed f n) ≡ r → r < n → labels_before w (listed f (suc n)) ≡ r
    unfolding listed
    listed_more n r e h =
        let l = length-listed f n in
        before-kept (listed f n) (f n ∷ []) (omega (arith, e, h, l)) ∙ e

    listed-last : (n : ℕ) → labels_before w (listed f n) ≡ n → labels_before w (listed f (suc n)) ≡ n + labels_before w (f n ∷ [])
    unfolding listed
    listed-last n e =
        let l = length-listed f n in
        let q = before-all (listed f n) (f n ∷ []) (e ∙ sym l) in
        omega (arith, q, l)

    one-here : (n : ℕ) → same (f n) w ≡ true → labels_before w (f n ∷ []) ≡ 0
    unfolding labels_before
    one-here n e = rw e

    one-not : (n : ℕ) → same (f n) w ≡ false → labels_before w (f n ∷ []) ≡ 1
    unfolding labels_before
    one-not n e = rw e

    -- the first that is the word, or none of n
    first-listed : (n r : ℕ) → r ≤ n → ((j : ℕ) → j < r → same (f j) w ≡ false) → (r < n → same (f r) w ≡ true) → labels_before w (listed f n) ≡ r
    unfolding listed labels_before
    first-listed zero r h others here = omega (arith, h)
    first-listed (suc n) r h others here = go (ltb r n) refl (ltb n r) refl (first-listed n)
      where
        go : (b : Bool) → ltb r n ≡ b → (d : Bool) → ltb n r ≡ d
            → ((q : ℕ) → q ≤ n → ((j : ℕ) → j < q → same (f j) w ≡ false) → (q < n → same (f q) w ≡ true) → labels_before w (listed f n) ≡ q)
            → labels_before w (listed f (suc n)) ≡ r
        go true e d k rest =
            let l = ltb-true r n e in
            listed_more n r (rest r (omega (arith, l)) others (λ u. here (omega (arith, u)))) l
        go false e true k rest =
            let l = ltb-true n r k in
            let before = rest n (omega arith) (λ j u. others j (omega (arith, u, l))) (λ u. absurd (omega (arith, u))) in
            let last = listed-last n before in
            let one = one-not n (others n l) in
            omega (arith, last, one, h, l)
        go false e false k rest =
            let q : r ≡ n = let l = ltb-false r n e in let m = ltb-false n r k in omega (arith, l, m) in
            let before = rest n (omega arith) (λ j u. others j (omega (arith, u, q))) (λ u. absurd (omega (arith, u))) in
            let last = listed-last n before in
            let one = one-here n (subst (λ (x : ℕ). same (f x) w ≡ true) q (here (omega (arith, q)))) in
            omega (arith, last, one, q)

-- ---- what a chain leads to

module _ (ks : List ℕ) (c : ℕ) where
  pub onward-within : (n named : ℕ) → onward ks c n named ≤ n
  unfolding onward
  onward-within n zero = omega arith
  onward-within n (suc j) = go (ltb j n) refl
    where
      go : (b : Bool) → ltb j n ≡ b → cond (b && eqb (get_or ks (numbers_from + j) 0) c) (suc j) 0 ≤ n
      go true e = let h = ltb-true j n e in pick (eqb (get_or ks (numbers_from + j) 0) c) h
        where
          pick : (d : Bool) → j < n → cond d (suc j) 0 ≤ n
          pick true h = omega (arith, h)
          pick false h = omega arith
      go false e = omega arith

  pub onward-below : (n named : ℕ) → onward ks c n named ≤ named
  unfolding onward
  onward-below n zero = omega arith
  onward-below n (suc j) = go (ltb j n && eqb (get_or ks (numbers_from + j) 0) c)
    where
      go : (b : Bool) → cond b (suc j) 0 ≤ suc j
      go true = omega arith
      go false = omega arith

  module _ (j : ℕ) where
    leads-none : (f : ℕ) → leads ks c j f 0 ≡ false
    unfolding leads
    leads-none zero = refl
    leads-none (suc f) = refl

    -- steps enough are as good as more
    pub steps : (f g named : ℕ) → named ≤ f → named ≤ g → leads ks c j f named ≡ leads ks c j g named
    unfolding leads
    steps zero g zero h k = sym (leads-none g)
    steps zero g (suc i) h k = absurd (omega (arith, h))
    steps (suc f) g zero h k = sym (leads-none g)
    steps (suc f) zero (suc i) h k = absurd (omega (arith, k))
    steps (suc f) (suc g) (suc i) h k =
        let x = get_or ks (links_from + i) 0 in
        let l = onward-within i x in
        ap (λ (b : Bool). eqb i j || b) (steps f g (onward ks c i x) (omega (arith, h, l)) (omega (arith, k, l)))

    -- a label that a chain leads to from one that is named: that one, or one that it leads to from the next
    leads-here : (i : ℕ) → i ≡ j → leads ks c j (suc i) (suc i) ≡ true
    unfolding leads
    leads-here i e = rw (eq-eqb i j e)

    leads-next : (i : ℕ) → (i ≡ j → ⊥) → let next = onward ks c i (get_or ks (links_from + i) 0) in leads ks c j (suc i) (suc i) ≡ leads ks c j next next
    unfolding leads
    leads-next i e =
        let next = onward ks c i (get_or ks (links_from + i) 0) in
        rw (ne_eqb i j e) (steps i next next (onward-within i (get_or ks (links_from + i) 0)) (omega arith))

-- ---- the walk

-- a name of bytes is not the word that stands for none
pub no-word : (s : List ℕ) (a n : ℕ) → get_or s a 0 < 256 → same no_word (window s a n) ≡ false
unfolding window
no-word s a zero h = refl
no-word s a (suc n) h = rw (ne_eqb 256 (get_or s a 0) (λ e. omega (arith, e, h)))

module _ (s xs ks w : List ℕ) (n c : ℕ) where
  abbrev word_at : ℕ → List ℕ
  word_at j = word_by s (get_or xs j 0) (get_or ks j 0)

  abbrev held : ℕ → List ℕ
  held = held_at s xs ks n

  -- the labels before the one that is found so far are not the word's, but for those that the chain still leads to
  pub record Walked (found named : ℕ) : Type 0 where
    pub below : named ≤ found
    pub within : found ≤ n
    pub here : found < n → same (held found) w ≡ true
    pub ahead : (j : ℕ) → leads ks c j named named ≡ true → leads_to ks n c j ≡ true
    pub others : (j : ℕ) → j < found → same (held j) w ≡ true → leads ks c j named named ≡ true

  -- where the chain ends
  pub walk_ends : (found named : ℕ) → named ≤ 0 → Walked found named → found ≡ labels_before w (words s xs ks n)
  unfolding words
  walk_ends found named z g = sym (first-listed w held n found g.within (λ j h. go j h (same (held j) w) refl) g.here)
    where
      go : (j : ℕ) → j < found → (b : Bool) → same (held j) w ≡ b → b ≡ false
      go j h true e =
          let q : 0 ≡ named = omega (arith, z) in
          let led = subst (λ (x : ℕ). leads ks c j x x ≡ true) (sym q) (g.others j h e) in
          absurd (false≢true (sym (leads-none ks c j 0) ∙ led))
      go j h false e = refl

  -- the word is on the chain, and not the one that stands for none
  module _ (on : c ≡ chain_of w) (z : same no_word w ≡ false) where
    -- a label held as the word is the word's, and its chain leads to it; the other way round
    held_led : (j : ℕ) → same (held j) w ≡ true → (leads_to ks n c j ≡ true) × (same (word_at j) w ≡ true)
    held_led j = go (leads_to ks n (chain_of (word_at j)) j) refl
      where
        go : (b : Bool) → leads_to ks n (chain_of (word_at j)) j ≡ b → same (cond b (word_at j) no_word) w ≡ true
            → (leads_to ks n c j ≡ true) × (same (word_at j) w ≡ true)
        go true l e = (subst (λ (k : ℕ). leads_to ks n k j ≡ true) (ap chain_of (same_equal (word_at j) w e) ∙ sym on) l, e)
        go false l e = absurd (false≢true (sym z ∙ e))

    led_held : (j : ℕ) → leads_to ks n c j ≡ true → same (word_at j) w ≡ true → same (held j) w ≡ true
    led_held j l e =
        let q = subst (λ (k : ℕ). leads_to ks n k j ≡ true) (on ∙ sym (ap chain_of (same_equal (word_at j) w e))) l in
        subst (λ (b : Bool). same (cond b (word_at j) no_word) w ≡ true) (sym q) e

    -- at the chain's last label
    pub walk-starts : (named : ℕ) → named ≡ onward ks c n (get_or ks (lasts_from + c) 0) → Walked n named
    walk-starts named q =
        let l : named ≤ n = subst (λ (x : ℕ). x ≤ n) (sym q) (onward-within ks c n (get_or ks (lasts_from + c) 0)) in
        let enough : (j : ℕ) → leads_to ks n c j ≡ leads ks c j named named = λ j. ap (leads ks c j n) (sym q) ∙ steps ks c j n named named l (omega arith) in
        record {
          below = l;
          within = omega arith;
          here = λ h. absurd (omega (arith, h));
          ahead = λ j e. enough j ∙ e;
          others = λ j h e. sym (enough j) ∙ (held_led j e).0;
        }

    -- at any other
    module _ (found named : ℕ) (h : 0 < named) (g : Walked found named) (next : ℕ) (q : next ≡ onward ks c (named - 1) (get_or ks (links_from + (named - 1)) 0)) where
      abbrev label : ℕ
      label = named - 1

      led_here : leads ks c label named named ≡ true
      led_here = let e : suc label ≡ named = omega (arith, h) in subst (λ (x : ℕ). leads ks c label x x ≡ true) e (leads-here ks c label label refl)

      led_next : (j : ℕ) → (label ≡ j → ⊥) → leads ks c j named named ≡ leads ks c j next next
      led_next j d =
          let e : suc label ≡ named = omega (arith, h) in
          subst (λ (x : ℕ). leads ks c j x x ≡ leads ks c j next next) e
          (leads-next ks c j label d ∙ ap (λ (x : ℕ). leads ks c j x x) (sym q))

      next-less : next < named
      next-less = let l = onward-within ks c label (get_or ks (links_from + label) 0) in omega (arith, q, l, h)

      ahead-next : (j : ℕ) → leads ks c j next next ≡ true → leads_to ks n c j ≡ true
      ahead-next j e = go (eqb label j) refl
        where
          go : (b : Bool) → eqb label j ≡ b → leads_to ks n c j ≡ true
          go true d = subst (λ (x : ℕ). leads_to ks n c x ≡ true) (eqb-true label j d) (g.ahead label led_here)
          go false d = g.ahead j (led_next j (eqb-false label j d) ∙ e)

      -- a label that is the word's is the one found now; another is passed
      walk_finds : same (word_at label) w ≡ true → Walked label next
      walk_finds e =
          record {
            below = omega (arith, next-less, h);
            within = omega (arith, g.below, g.within);
            here = λ u. led_held label (g.ahead label led_here) e;
            ahead = ahead-next;
            others = λ j u p. sym (led_next j (λ d. omega (arith, d, u))) ∙ g.others j (omega (arith, u, g.below)) p;
          }

      walk-passes : same (word_at label) w ≡ false → Walked found next
      walk-passes e =
          let other : (j : ℕ) → same (held j) w ≡ true → label ≡ j → ⊥ =
          λ j p d. false≢true (sym e ∙ subst (λ (x : ℕ). same (word_at x) w ≡ true) (sym d) (held_led j p).1) in
          record {
            below = omega (arith, next-less, g.below);
            within = g.within;
            here = g.here;
            ahead = ahead-next;
            others = λ j u p. sym (led_next j (other j p)) ∙ g.others j u p;
          }

      pub walk_on : (r : ℕ)
          → (same (word_at label) w ≡ true → r ≡ label → Walked r next) × (same (word_at label) w ≡ false → r ≡ found → Walked r next)
      walk_on r = (
        λ e f. subst (λ (x : ℕ). Walked x next) (sym f) (walk_finds e),
        λ e f. subst (λ (x : ℕ). Walked x next) (sym f) (walk-passes e),
      )
