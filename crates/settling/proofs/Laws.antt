-- Laws of a label's value, of the verdict on one label, and of the verdict and the cells when one label more is settled.
use Prim.Native.Nat.{ℕ, zero, suc, ◌+◌, ◌*◌, ◌-◌, ◌≤◌, ◌<◌}
use mathlib.Core.Bool.{Bool, true, false, cond, ◌||◌}
use mathlib.Core.List.{List, [], ◌∷◌, ◌++◌, append_assoc}
use mathlib.Core.Path.{◌≡◌, refl, sym, ap, subst, ◌∙◌}
use native.Mathlib.Omega.{arith}
use native.Mathlib.Numerals.{add-one}
use lib.Dec.{eqb}
use lib.ListN.{length, get_or, set}
use borrow.Author.Tests.{eq-eqb, ne_eqb, lt-ltb, le-ltb}
use Rattle.codes.specs.declared.refusals.Refusal.TheVariants.{UnknownLabel, FarLabel}
use Rattle.codes.specs.Refusals.{number}
use Rattle.codes.specs.declared.refusals.Refusal.{Refusal}
use Rattle.names.specs.Names.{same}
use Rattle.sources.specs.Placing.{Bound}
use Rattle.sources.specs.Uses.{Value, known, unknown, value_of, from, Use, counted_word}
use Rattle.sources.specs.Order.{◌on◌}
use Rattle.sources.specs.Inner.Assembling.{Verdict, passes, refused, and_then, first_of, test, is_unknown, too_far, use_verdict, uses_verdict, is_refused, second_refused, filled}
use Rattle.statements.proofs.Labelling.{never}
use Rattle.labels.specs.Inner.Labels.{window, words, labels_before, zipped}
use Rattle.labels.proofs.Laws.{length-words}
use Rattle.uses.specs.Inner.Held.{counted_by, use_held, use_at, uses_held}
use Rattle.std.proofs.Common.{Result, Ok, Err}
use Rattle.settling.specs.Inner.Settling.{Reaches, Tells}

-- ---- a label's value

-- a word among the names has the value at its place
value_there : (w : List ℕ) (ws : List (List ℕ)) (vs : List ℕ) → labels_before w ws < length ws → length ws ≤ length vs
    → value_of (zipped ws vs) w ≡ known (get_or vs (labels_before w ws) 0)
unfolding value_of zipped labels_before
value_there w [] vs h k = absurd (omega (arith, h))
value_there w (x ∷ ws) [] h k = absurd (omega (arith, k))
value_there w (x ∷ ws) (v ∷ vs) h k = go (same x w) h (λ l. value_there w ws vs l (omega (arith, k)))
  where
    go : (b : Bool) → cond b 0 (suc (labels_before w ws)) < suc (length ws)
        → (labels_before w ws < length ws → value_of (zipped ws vs) w ≡ known (get_or vs (labels_before w ws) 0))
        → cond b (known v) (value_of (zipped ws vs) w) ≡ known (get_or (v ∷ vs) (cond b 0 (suc (labels_before w ws))) 0)
    go true l f = refl
    go false l f = f (omega (arith, l))

-- a word that is none of the names has no value
value_none : (w : List ℕ) (ws : List (List ℕ)) (vs : List ℕ) → length ws ≤ labels_before w ws → value_of (zipped ws vs) w ≡ unknown
unfolding value_of zipped labels_before
value_none w [] vs h = refl
value_none w (x ∷ ws) [] h = refl
value_none w (x ∷ ws) (v ∷ vs) h = go (same x w) h (value_none w ws vs)
  where
    go : (b : Bool) → suc (length ws) ≤ cond b 0 (suc (labels_before w ws)) → (length ws ≤ labels_before w ws → value_of (zipped ws vs) w ≡ unknown)
        → cond b (known v) (value_of (zipped ws vs) w) ≡ unknown
    go true l f = absurd (omega (arith, l))
    go false l f = f (omega (arith, l))

-- both, for the labels that two rows hold
module _ (s xs ls vs w : List ℕ) (n k : ℕ) (e : k ≡ labels_before w (words s xs ls n)) where
  pub value_is : n ≤ length vs → k < n → value_of (zipped (words s xs ls n) vs) w ≡ known (get_or vs k 0)
  value_is hv h =
      value_there w (words s xs ls n) vs (omega (arith, length-words s xs ls n, e, h)) (omega (arith, length-words s xs ls n, hv))
      ∙ ap (λ (j : ℕ). known (get_or vs j 0)) (sym e)

  pub value_no : n ≤ k → value_of (zipped (words s xs ls n) vs) w ≡ unknown
  value_no h = value_none w (words s xs ls n) vs (omega (arith, length-words s xs ls n, e, h))

-- ---- one label

-- how far a value lies from an address
module _ (v next : ℕ) where
  pub too_low : v + 32768 < next → too_far (from next) (known v) ≡ true
  too_low h = rw (lt-ltb (v + 32768) next h)

  pub too_high : next ≤ v + 32768 → next + 32767 < v → too_far (from next) (known v) ≡ true
  too_high h k = rw (le-ltb (v + 32768) next h, lt-ltb (next + 32767) v k)

  pub in_reach : next ≤ v + 32768 → v ≤ next + 32767 → too_far (from next) (known v) ≡ false
  in_reach h k = rw (le-ltb (v + 32768) next h, le-ltb (next + 32767) v k)

-- 13, 14 or neither
module _ (bs : List Bound) (u : Use) where
  none_such : value_of bs u.name ≡ unknown → use_verdict bs u ≡ refused (13 on u.line)
  unfolding use_verdict first_of
  none_such e = rw e

  too_far_lem : (v : ℕ) → value_of bs u.name ≡ known v → too_far u.counted (known v) ≡ true → use_verdict bs u ≡ refused (14 on u.line)
  unfolding use_verdict first_of
  too_far_lem v e t = rw (e, t)

  fits : (v : ℕ) → value_of bs u.name ≡ known v → too_far u.counted (known v) ≡ false → use_verdict bs u ≡ passes
  unfolding use_verdict first_of
  fits v e t = rw (e, t)

-- a verdict refuses
abbrev refuses : Verdict → Bool
refuses passes = false
refuses (refused why) = true

-- a label is refused as the verdict on it says
refused_by : (bs : List Bound) (u : Use) → is_refused bs u ≡ refuses (use_verdict bs u)
unfolding use_verdict first_of
refused_by bs u = go (is_unknown (value_of bs u.name)) (too_far u.counted (value_of bs u.name))
  where
    go : (a b : Bool) → a || b ≡ refuses (first_of (test (13 on u.line) a ∷ test (14 on u.line) b ∷ []))
    go true b = refl
    go false true = refl
    go false false = refl

-- the word of a label that is held, by what is found of its value
module _ (bs : List Bound) (s : List ℕ) (start size cell away : ℕ) where
  abbrev held : ℕ → Use
  held k = use_held s start size cell k away

  abbrev value : Value
  value = value_of bs (window s start size)

  abbrev Told : Result ℕ Refusal → Type 0
  Told r = Tells (λ k. use_verdict bs (held k)) (counted_word (counted_by cell away) value) r

  -- no label has the name
  pub tells_none : (f : Refusal) → value ≡ unknown → f ≡ UnknownLabel → Told (Err f)
  tells_none f e g = λ k. none_such bs (held k) e ∙ ap (λ (x : Refusal). refused (number x on k)) (sym g)

  -- the value stands as it is
  pub tells-plain : (v : ℕ) → value ≡ known v → away ≡ 0 → Told (Ok v)
  tells-plain v e h =
      let p = eq-eqb away 0 h in
      ((λ k. fits bs (held k) v e (rw p)), rw (p, e))

  -- the value is counted from the address after the instruction
  pub tells-far : (v : ℕ) → value ≡ known v → (away ≡ 0 → ⊥) → (r : Result ℕ Refusal) → Reaches v (cell + away) r → Told r
  tells-far v e h (Ok x) (t, g) =
      let p = ne_eqb away 0 h in
      ((λ k. fits bs (held k) v e (rw p t)), rw (p, e) g)
  tells-far v e h (Err f) (t, g) =
      let p = ne_eqb away 0 h in
      λ k. too_far_lem bs (held k) v e (rw p t) ∙ ap (λ (x : Refusal). refused (number x on k)) (sym g)

-- ---- one label more

module _ (bs : List Bound) where
  -- behind labels that pass, the others decide
  verdict-behind : (us vs : List Use) → uses_verdict bs us ≡ passes → uses_verdict bs (us ++ vs) ≡ uses_verdict bs vs
  unfolding uses_verdict
  verdict-behind [] vs e = refl
  verdict-behind (x ∷ us) vs e = go (use_verdict bs x) e (verdict-behind us vs)
    where
      go : (v : Verdict) → and_then v (uses_verdict bs us) ≡ passes → (uses_verdict bs us ≡ passes → uses_verdict bs (us ++ vs) ≡ uses_verdict bs vs)
          → and_then v (uses_verdict bs (us ++ vs)) ≡ uses_verdict bs vs
      go passes e f = f e
      go (refused why) e f = never (cc)

  -- the last word is set last
  filled-behind : (us : List Use) (u : Use) (m : List ℕ)
      → filled bs (us ++ (u ∷ [])) m ≡ set (filled bs us m) u.cell (counted_word u.counted (value_of bs u.name))
  unfolding filled
  filled-behind [] u m = refl
  filled-behind (x ∷ us) u m = filled-behind us u (set m x.cell (counted_word x.counted (value_of bs x.name)))

  -- one label, then others: the verdict, and whether the refused one is its line's second
  module _ (u : Use) (vs : List Use) where
    verdict-first : (v : Verdict) → use_verdict bs u ≡ v → uses_verdict bs (u ∷ vs) ≡ and_then v (uses_verdict bs vs)
    unfolding uses_verdict
    verdict-first v e = ap (λ (w : Verdict). and_then w (uses_verdict bs vs)) e

    second-first : (before : ℕ) (v : Verdict) → use_verdict bs u ≡ v
        → second_refused before bs (u ∷ vs) ≡ cond (refuses v) (eqb u.line before) (second_refused u.line bs vs)
    unfolding second_refused
    second-first before v e = ap (λ (b : Bool). cond b (eqb u.line before) (second_refused u.line bs vs)) (refused_by bs u ∙ ap refuses e)

-- of the labels that are held, those before the i-th
module _ (bs : List Bound) (s row aways : List ℕ) where
  -- they pass, and the last of them is on this line: which one is refused lies with the labels behind them
  abbrev pub Second : ℕ → ℕ → Type 0
  Second i before = (vs : List Use) → second_refused 0 bs (uses_held s row aways i ++ vs) ≡ second_refused before bs vs

  pub nothing-held : uses_verdict bs (uses_held s row aways 0) ≡ passes
  unfolding uses_held uses_verdict
  nothing-held = refl

  pub nothing-before : Second 0 0
  unfolding uses_held
  nothing-before vs = refl

  pub nothing-filled : (m : List ℕ) → filled bs (uses_held s row aways 0) m ≡ m
  unfolding uses_held filled
  nothing-filled m = refl

-- of the labels that are held, the i-th
module _ (bs : List Bound) (s row aways : List ℕ) (i : ℕ) where
  abbrev use' : Use
  use' = use_at s row aways i

  abbrev settles : ℕ → Verdict
  settles n = uses_verdict bs (uses_held s row aways n)

  -- what its word, found, says
  abbrev Said : Result ℕ Refusal → Type 0
  Said r = Told bs s (get_or row (4 * i) 0) (get_or row (4 * i + 1) 0) use'.cell (get_or aways i 0) r

  -- what holds of the labels up to it, whatever comes behind it, holds of the labels up to any one behind it
  whatever_behind : (P : List Use → Type 0) → ((vs : List Use) → P (uses_held s row aways i ++ (use' ∷ vs))) → (n : ℕ)
      → P (uses_held s row aways (suc (i + n)))
  unfolding uses_held
  whatever_behind P h zero =
      let q : suc i ≡ suc (i + 0) = omega arith in
      subst (λ (n : ℕ). P (uses_held s row aways n)) q (h [])
  whatever_behind P h (suc n) =
      let q : suc (suc (i + n)) ≡ suc (i + suc n) = omega arith in
      let last = use_at s row aways (suc (i + n)) ∷ [] in
      subst (λ (n : ℕ). P (uses_held s row aways n)) q
      (whatever_behind (λ us. P (us ++ last)) (λ vs. subst P (sym (append_assoc (uses_held s row aways i) (use' ∷ vs) last)) (h (vs ++ last))) n)

  -- its refusal is that of all of them
  pub all-refused : (n : ℕ) (f : Refusal) (before : ℕ) (r : Result ℕ Refusal) → i < n → settles i ≡ passes → Second bs s row aways i before → Said r → r ≡ Err f
      → (settles n ≡ refused (number f on use'.line)) × (eqb use'.line before ≡ second_refused 0 bs (uses_held s row aways n))
  all-refused n f before r h e b g k =
      let q : suc (i + (n - suc i)) ≡ n = omega (arith, h) in
      let why = number f on use'.line in
      let t = subst Said k g use'.line in
      let Refused : List Use → Type 0 = λ us. (uses_verdict bs us ≡ refused why) × (eqb use'.line before ≡ second_refused 0 bs us) in
      subst (λ (m : ℕ). Refused (uses_held s row aways m)) q
      (whatever_behind Refused
      (λ vs. (
        verdict-behind bs (uses_held s row aways i) (use' ∷ vs) e ∙ verdict-first bs use' vs (refused why) t,
        sym (b (use' ∷ vs) ∙ second-first bs use' vs before (refused why) t),
      ))
      (n - suc i))

  module _ (x : ℕ) (r : Result ℕ Refusal) (g : Said r) (k : r ≡ Ok x) where
    one-fits : use_verdict bs use' ≡ passes
    one-fits = (subst Said k g).0 use'.line

    -- it passes, and so do the labels up to it
    pub one_passes : settles i ≡ passes → settles (i + 1) ≡ passes
    unfolding uses_held uses_verdict
    one_passes e = rw (add-one i) (verdict-behind bs (uses_held s row aways i) (use' ∷ []) e ∙ verdict-first bs use' [] passes one-fits)

    -- its line is that of the label before the next
    pub one-before : (before : ℕ) → Second bs s row aways i before → Second bs s row aways (i + 1) use'.line
    unfolding uses_held
    one-before before b vs =
        rw (add-one i, append_assoc (uses_held s row aways i) (use' ∷ []) vs) (b (use' ∷ vs) ∙ second-first bs use' vs before passes one-fits)

    -- its word in its cell
    pub one-filled : (m : List ℕ) → set (filled bs (uses_held s row aways i) m) use'.cell x ≡ filled bs (uses_held s row aways (i + 1)) m
    unfolding uses_held
    one-filled m = rw (add-one i, (subst Said k g).1) (sym (filled-behind bs (uses_held s row aways i) use' m))
