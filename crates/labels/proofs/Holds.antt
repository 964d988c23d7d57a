-- One label more: the rows hold the words that they held, and behind them the new one.
use Prim.Native.Nat.{ℕ, zero, suc, ◌+◌, ◌≤◌, ◌<◌}
use mathlib.Core.Bool.{Bool, true, false, cond, ◌&&◌, ◌||◌}
use mathlib.Core.List.{List, [], ◌∷◌, ◌++◌}
use mathlib.Core.Path.{◌≡◌, refl, sym, ap, ap₂, subst, ◌∙◌}
use native.Mathlib.Numerals.{add-one}
use native.Mathlib.Omega.{arith}
use lib.Dec.{eqb, ltb}
use lib.ListN.{length, get_or, set}
use lib.Seq.{lt-length-set, get_or-set_same, get_or-set_other}
use borrow.Author.Tests.{eq-eqb, ne_eqb, eqb-true, eqb-false, lt-ltb, le-ltb, ltb-true, ltb-false}
use Rattle.codes.specs.Limits.{most_labels}
use Rattle.labels.specs.Inner.Labels.{window, key_of, word_by, chain_of, chains, numbers_from, links_from, lasts_from, key_cells, onward, leads, leads_to, no_word, held_at, listed, words, TakesWord}
use Rattle.labels.proofs.Laws.{word_held, chain_small}
use Rattle.labels.proofs.Walks.{onward-within, steps}

listed-alike : (f g : ℕ → List ℕ) (m : ℕ) → ((j : ℕ) → j < m → f j ≡ g j) → listed f m ≡ listed g m
unfolding listed
listed-alike f g zero h = refl
listed-alike f g (suc m) h =
    ap₂ (λ (ws : List (List ℕ)) (w : List ℕ). ws ++ (w ∷ [])) (listed-alike f g m (λ j q. h j (omega (arith, q)))) (h m (omega arith))

-- ---- a row of keys that holds one label more

record Longer (ks ks' : List ℕ) (n k c : ℕ) : Type 0 where
  key : get_or ks' n 0 ≡ k
  number : get_or ks' (numbers_from + n) 0 ≡ c
  link : get_or ks' (links_from + n) 0 ≡ get_or ks (lasts_from + c) 0
  last : get_or ks' (lasts_from + c) 0 ≡ suc n
  keys_kept : (j : ℕ) → j < n → get_or ks' j 0 ≡ get_or ks j 0
  numbers-kept : (j : ℕ) → j < n → get_or ks' (numbers_from + j) 0 ≡ get_or ks (numbers_from + j) 0
  links_kept : (j : ℕ) → j < n → get_or ks' (links_from + j) 0 ≡ get_or ks (links_from + j) 0
  lasts-kept : (d : ℕ) → (d ≡ c → ⊥) → get_or ks' (lasts_from + d) 0 ≡ get_or ks (lasts_from + d) 0

module _ (ks ks' : List ℕ) (n k c : ℕ) (l : Longer ks ks' n k c) where
  -- before the new label every chain goes on as before
  onward-kept : (d i named : ℕ) → i ≤ n → onward ks' d i named ≡ onward ks d i named
  unfolding onward
  onward-kept d i zero h = refl
  onward-kept d i (suc j) h = go (ltb j i) refl
    where
      go : (t : Bool) → ltb j i ≡ t
          → cond (t && eqb (get_or ks' (numbers_from + j) 0) d) (suc j) 0 ≡ cond (t && eqb (get_or ks (numbers_from + j) 0) d) (suc j) 0
      go true e = let b = ltb-true j i e in ap (λ (x : ℕ). cond (eqb x d) (suc j) 0) (l.numbers-kept j (omega (arith, b, h)))
      go false e = refl

  leads-kept : (d j f named : ℕ) → named ≤ n → leads ks' d j f named ≡ leads ks d j f named
  unfolding leads
  leads-kept d j zero named h = refl
  leads-kept d j (suc f) zero h = refl
  leads-kept d j (suc f) (suc i) h =
      let b = onward-within ks d i (get_or ks (links_from + i) 0) in
      let e : onward ks' d i (get_or ks' (links_from + i) 0) ≡ onward ks d i (get_or ks (links_from + i) 0) =
      onward-kept d i (get_or ks' (links_from + i) 0) (omega arith) ∙ ap (onward ks d i) (l.links_kept i (omega arith)) in
      ap (λ (t : Bool). eqb i j || t)
      (ap (leads ks' d j f) e ∙ leads-kept d j f (onward ks d i (get_or ks (links_from + i) 0)) (omega (arith, b, h)))

  -- the new label is on no other chain, whatever its last cell names
  onward-other : (d named : ℕ) → (d ≡ c → ⊥) → onward ks' d (suc n) named ≡ onward ks d n named
  unfolding onward
  onward-other d zero h = refl
  onward-other d (suc j) h = go (ltb j n) (eqb j n) refl refl
    where
      go : (t u : Bool) → ltb j n ≡ t → eqb j n ≡ u
          → cond (ltb j (suc n) && eqb (get_or ks' (numbers_from + j) 0) d) (suc j) 0 ≡ cond (t && eqb (get_or ks (numbers_from + j) 0) d) (suc j) 0
      go true u e f = let b = ltb-true j n e in rw (lt-ltb j (suc n) (omega (arith, b)), l.numbers-kept j b)
      go false true e f =
          let q : j ≡ n = eqb-true j n f in
          let other : get_or ks' (numbers_from + j) 0 ≡ d → ⊥ = λ p. h (sym p ∙ ap (λ (x : ℕ). get_or ks' (numbers_from + x) 0) q ∙ l.number) in
          rw (lt-ltb j (suc n) (omega (arith, q)), ne_eqb (get_or ks' (numbers_from + j) 0) d other)
      go false false e f =
          let b = ltb-false j n e in
          let q : j ≡ n → ⊥ = eqb-false j n f in
          rw (le-ltb j (suc n) (omega (arith, b, q)))

  -- its own chain begins with it
  onward_new : onward ks' c (suc n) (get_or ks' (lasts_from + c) 0) ≡ suc n
  unfolding onward
  onward_new = rw (l.last, lt-ltb n (suc n) (omega arith), eq-eqb (get_or ks' (numbers_from + n) 0) c l.number)

  leads-own : (j : ℕ) → leads_to ks' (suc n) c j ≡ (eqb n j || leads_to ks n c j)
  unfolding leads
  leads-own j =
      let e : onward ks' c n (get_or ks' (links_from + n) 0) ≡ onward ks c n (get_or ks (lasts_from + c) 0) =
      onward-kept c n (get_or ks' (links_from + n) 0) (omega arith) ∙ ap (onward ks c n) l.link in
      ap (leads ks' c j (suc n)) onward_new
      ∙ ap (λ (t : Bool). eqb n j || t)
      (ap (leads ks' c j n) e ∙ leads-kept c j n (onward ks c n (get_or ks (lasts_from + c) 0)) (onward-within ks c n (get_or ks (lasts_from + c) 0)))

  leads-other : (d j : ℕ) → (d ≡ c → ⊥) → leads_to ks' (suc n) d j ≡ leads_to ks n d j
  leads-other d j h =
      let last = get_or ks (lasts_from + d) 0 in
      let b = onward-within ks d n last in
      ap (λ (x : ℕ). leads ks' d j (suc n) (onward ks' d (suc n) x)) (l.lasts-kept d h)
      ∙ ap (leads ks' d j (suc n)) (onward-other d last h)
      ∙ leads-kept d j (suc n) (onward ks d n last) b
      ∙ steps ks d j (suc n) n (onward ks d n last) (omega (arith, b)) b

  leads-before : (d j : ℕ) → j < n → leads_to ks' (suc n) d j ≡ leads_to ks n d j
  leads-before d j h = go (eqb d c) refl
    where
      go : (t : Bool) → eqb d c ≡ t → leads_to ks' (suc n) d j ≡ leads_to ks n d j
      go true e =
          let other : n ≡ j → ⊥ = λ q. omega (arith, h, q) in
          subst (λ (x : ℕ). leads_to ks' (suc n) x j ≡ leads_to ks n x j) (sym (eqb-true d c e))
          (leads-own j ∙ ap (λ (t : Bool). t || leads_to ks n c j) (ne_eqb n j other))
      go false e = leads-other d j (eqb-false d c e)

  leads_new : leads_to ks' (suc n) c n ≡ true
  leads_new = leads-own n ∙ ap (λ (t : Bool). t || leads_to ks n c n) (eq-eqb n n refl)

  -- ---- the words

  module _ (s xs : List ℕ) (a : ℕ) (room : n < length xs) where
    held-before : (j : ℕ) → j < n → held_at s (set xs n a) ks' (suc n) j ≡ held_at s xs ks n j
    held-before j h =
        let other : j ≡ n → ⊥ = λ q. omega (arith, h, q) in
        let w = word_by s (get_or xs j 0) (get_or ks j 0) in
        ap₂ (λ (x y : ℕ). cond (leads_to ks' (suc n) (chain_of (word_by s x y)) j) (word_by s x y) no_word)
        (get_or-set_other xs n j a 0 other) (l.keys_kept j h)
        ∙ ap (λ (t : Bool). cond t w no_word) (leads-before (chain_of w) j h)

    held_new : c ≡ chain_of (word_by s a k) → held_at s (set xs n a) ks' (suc n) n ≡ word_by s a k
    held_new e =
        ap₂ (λ (x y : ℕ). cond (leads_to ks' (suc n) (chain_of (word_by s x y)) n) (word_by s x y) no_word) (get_or-set_same xs n a 0 room) l.key
        ∙ ap (λ (t : Bool). cond t (word_by s a k) no_word) (ap (λ (d : ℕ). leads_to ks' (suc n) d n) (sym e) ∙ leads_new)

    words-longer : c ≡ chain_of (word_by s a k) → words s (set xs n a) ks' (n + 1) ≡ words s xs ks n ++ (word_by s a k ∷ [])
    unfolding words listed
    words-longer e =
        ap (words s (set xs n a) ks') (add-one n)
        ∙ ap₂ (λ (ws : List (List ℕ)) (w : List ℕ). ws ++ (w ∷ []))
        (listed-alike (held_at s (set xs n a) ks' (suc n)) (held_at s xs ks n) n held-before) (held_new e)

-- ---- what `hold` writes

-- a new label's key and chain; then the label before it there, and itself as the last
abbrev pub numbered : List ℕ → ℕ → ℕ → ℕ → List ℕ
numbered ks n k c = set (set ks n k) (numbers_from + n) c

abbrev pub ended : List ℕ → ℕ → ℕ → ℕ → ℕ → List ℕ
ended ks n k c before = set (set (numbered ks n k c) (links_from + n) before) (lasts_from + c) (n + 1)

pub lt_numbered : (ks : List ℕ) (n k c : ℕ) {i : ℕ} → i < length ks → i < length (numbered ks n k c)
lt_numbered ks n k c h = lt-length-set (set ks n k) (numbers_from + n) c (lt-length-set ks n k h)

module _ (ks : List ℕ) (n k c before : ℕ) (long : length ks ≡ key_cells) (few : n < most_labels) (small : c < chains) where
  abbrev keyed : List ℕ
  keyed = set ks n k

  abbrev first_two : List ℕ
  first_two = numbered ks n k c

  abbrev linked : List ℕ
  linked = set first_two (links_from + n) before

  abbrev all-four : List ℕ
  all-four = ended ks n k c before

  two-kept : (i : ℕ) → (i ≡ n → ⊥) → (i ≡ numbers_from + n → ⊥) → get_or first_two i 0 ≡ get_or ks i 0
  two-kept i p q = get_or-set_other keyed (numbers_from + n) i c 0 q ∙ get_or-set_other ks n i k 0 p

  four-kept : (i : ℕ) → (i ≡ links_from + n → ⊥) → (i ≡ lasts_from + c → ⊥) → get_or all-four i 0 ≡ get_or first_two i 0
  four-kept i p q = get_or-set_other linked (lasts_from + c) i (n + 1) 0 q ∙ get_or-set_other first_two (links_from + n) i before 0 p

  longer : before ≡ get_or first_two (lasts_from + c) 0 → Longer ks all-four n k c
  longer e =
      record {
        key =
            four-kept n (λ q. omega (arith, q)) (λ q. omega (arith, q, few))
            ∙ get_or-set_other keyed (numbers_from + n) n c 0 (λ q. omega (arith, q))
            ∙ get_or-set_same ks n k 0 (omega (arith, few, long));
        number =
            four-kept (numbers_from + n) (λ q. omega (arith, q)) (λ q. omega (arith, q, few))
            ∙ get_or-set_same keyed (numbers_from + n) c 0 (lt-length-set ks n k (omega (arith, few, long)));
        link =
            get_or-set_other linked (lasts_from + c) (links_from + n) (n + 1) 0 (λ q. omega (arith, q, few))
            ∙ get_or-set_same first_two (links_from + n) before 0 (lt_numbered ks n k c (omega (arith, few, long)))
            ∙ e
            ∙ two-kept (lasts_from + c) (λ q. omega (arith, q, few)) (λ q. omega (arith, q, few));
        last =
            get_or-set_same linked (lasts_from + c) (n + 1) 0 (lt-length-set first_two (links_from + n) before (lt_numbered ks n k c (omega (arith, small, long))))
            ∙ add-one n;
        keys_kept = λ j h. four-kept j (λ q. omega (arith, q, h)) (λ q. omega (arith, q, h, few))
            ∙ two-kept j (λ q. omega (arith, q, h)) (λ q. omega (arith, q, h));
        numbers-kept = λ j h. four-kept (numbers_from + j) (λ q. omega (arith, q, h, few)) (λ q. omega (arith, q, h, few))
            ∙ two-kept (numbers_from + j) (λ q. omega (arith, q, few)) (λ q. omega (arith, q, h));
        links_kept = λ j h. four-kept (links_from + j) (λ q. omega (arith, q, h)) (λ q. omega (arith, q, h, few))
            ∙ two-kept (links_from + j) (λ q. omega (arith, q, few)) (λ q. omega (arith, q, few));
        lasts-kept = λ d h. four-kept (lasts_from + d) (λ q. omega (arith, q, few)) (λ q. h (omega (arith, q)))
            ∙ two-kept (lasts_from + d) (λ q. omega (arith, q, few)) (λ q. omega (arith, q, few));
      }

-- a name of a line, held by its place in a source and its key
word-there : (s t : List ℕ) (a b n : ℕ) → get_or t b 0 < 256 → window t b n ≡ window s a n → word_by s a (key_of (window t b n)) ≡ window t b n
unfolding window key_of word_by
word-there s t a b zero h e = refl
word-there s t a b (suc n) h e =
    let first : get_or t b 0 ≡ get_or s a 0 = ap (λ (l : List ℕ). get_or l 0 0) e in
    ap (λ (w : List ℕ). word_by s a (key_of w)) e ∙ word_held s a (suc n) (omega (arith, first, h)) ∙ sym e

pub chain_below : (w : List ℕ) {c : ℕ} → c ≡ chain_of w → c < chains
chain_below w e = omega (arith, e, chain_small w)

-- the rows of `hold`
pub takes-word : (xs ks line : List ℕ) (n place start size k c before : ℕ) → n < most_labels → length xs ≡ most_labels → length ks ≡ key_cells
    → get_or line start 0 < 256 → k ≡ key_of (window line start size) → c ≡ chain_of (window line start size)
    → before ≡ get_or (numbered ks n k c) (lasts_from + c) 0
    → TakesWord (window line start size) place size n xs ks (set xs n place) (ended ks n k c before)
takes-word xs ks line n place start size k c before few xs-long ks-long byte key-is chain-is before_is s there =
    let w = window line start size in
    let e : word_by s place k ≡ w = ap (word_by s place) key-is ∙ word-there s line place start size byte there in
    let l = longer ks n k c before ks-long few (chain_below w chain-is) before_is in
    words-longer ks (ended ks n k c before) n k c l s xs place (omega (arith, few, xs-long)) (chain-is ∙ ap chain_of (sym e))
    ∙ ap (λ (u : List ℕ). words s xs ks n ++ (u ∷ [])) e
