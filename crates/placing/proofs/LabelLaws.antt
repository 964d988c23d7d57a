-- A line's own label, by its place in the source.
use Prim.Native.Nat.{ℕ, suc, ◌+◌, ◌-◌, ◌≤◌}
use mathlib.Core.Bool.{Bool, true, false, cond, ◌||◌}
use mathlib.Core.List.{List, [], ◌∷◌, ◌++◌, map}
use mathlib.Core.Path.{◌≡◌, refl, sym, ap, ap₂, ◌∙◌}
use native.Mathlib.Omega.{arith}
use lib.Dec.{ltb, leb}
use lib.ListN.{length, take, drop, take-append-drop}
use lib.Seq.{take-append-le, drop-append-le, length-take-le, length-slice}
use borrow.Author.Tests.{lt-ltb, le-ltb, ltb-true, ltb-false}
use Rattle.codes.specs.Limits.{most_labels, longest_label}
use Rattle.std.proofs.Common.{Some}
use Rattle.values.specs.declared.Name.{Name}
use Rattle.statements.specs.Reading.{line_read}
use Rattle.statements.proofs.Top as Statements
use Rattle.sources.specs.Sources.{spelled}
use Rattle.sources.specs.Placing.{Bound, Place, names, labelled}
use Rattle.names.specs.Names.{same}
use Rattle.sources.specs.Order.{◌on◌}
use Rattle.sources.specs.Inner.Assembling.{passes, refused, first_of, among, name_verdict, label_verdict}
use Rattle.labels.specs.Inner.Labels.{window, words, labels_before, zipped, key_cells}
use Rattle.labels.proofs.Laws.{length-words, spelled-window}
use Rattle.placing.specs.Inner.State.{state_of, place_in, Fair}
use Rattle.placing.specs.declared.Counters.{Counters}

spelled-length : (line : List ℕ) (n : Name) → n.end ≤ length line → length (spelled line n) ≡ n.end - n.start
spelled-length line n h = length-slice n.start n.end line h

-- ---- a word among others

suc-ltb : (a b : ℕ) → ltb a b ≡ ltb (suc a) (suc b)
suc-ltb a b = go (ltb a b) refl
  where
    go : (t : Bool) → ltb a b ≡ t → t ≡ ltb (suc a) (suc b)
    go true e = let h = ltb-true a b e in sym (lt-ltb (suc a) (suc b) (omega arith))
    go false e = let h = ltb-false a b e in sym (le-ltb (suc a) (suc b) (omega arith))

-- the code's test of 9
among-place : (w : List ℕ) (xs : List (List ℕ)) → among w xs ≡ ltb (labels_before w xs) (length xs)
unfolding among labels_before
among-place w [] = refl
among-place w (x ∷ xs) = go (same x w) (among-place w xs)
  where
    go : (b : Bool) → among w xs ≡ ltb (labels_before w xs) (length xs) → (b || among w xs) ≡ ltb (cond b 0 (suc (labels_before w xs))) (suc (length xs))
    go true e = sym (lt-ltb 0 (suc (length xs)) (omega arith))
    go false e = e ∙ suc-ltb (labels_before w xs) (length xs)

-- ---- the names of a place

-- as many values as names
named : (us : List (List ℕ)) (vs : List ℕ) → length us ≤ length vs → map (λ (b : Bound). b.name) (zipped us vs) ≡ us
unfolding zipped
named [] vs h = refl
named (u ∷ us) [] h = absurd (omega arith)
named (u ∷ us) (v ∷ vs) h = ap (λ (r : List (List ℕ)). u ∷ r) (named us vs (omega arith))

names-all : (c : Counters) (ws : List (List ℕ)) (vs ms : List ℕ) → length ws ≡ c.bound + c.waiting → c.bound ≤ length vs
    → names (state_of ws vs ms c) ≡ ws
unfolding names
names-all c ws vs ms l h =
    ap (λ (x : List (List ℕ)). x ++ drop c.bound ws)
    (named (take c.bound ws) vs (omega (arith, length-take-le c.bound ws (omega arith))))
    ∙ take-append-drop c.bound ws

-- ---- the verdict

-- what `declare` is lent: rows for 512 labels, and a label within its line
pub record Lent (starts keys line vs : List ℕ) (c : Counters) (n : Name) : Type 0 where
  pub fair : Fair c
  pub starts-long : length starts ≡ most_labels
  pub keys_long : length keys ≡ key_cells
  pub values_long : length vs ≡ most_labels
  pub order : n.start ≤ n.end
  pub within : n.end ≤ length line

module _ (s starts keys line vs ms : List ℕ) (c : Counters) (n : Name) (k : ℕ) (lent : Lent starts keys line vs c n) where
  abbrev count : ℕ
  count = c.bound + c.waiting

  abbrev held : List (List ℕ)
  held = words s starts keys count

  held-long : length held ≡ count
  held-long = length-words s starts keys count

  -- by the tests' answers
  pub label_by : {x y z : Bool} {i : ℕ} → ltb longest_label (n.end - n.start) ≡ x → leb most_labels count ≡ y
      → i ≡ labels_before (window line n.start (n.end - n.start)) held
      → ltb i count ≡ z
      → label_verdict k (place_in s starts keys vs ms c) line (Some n) ≡ cond (x || y) (refused (10 on k)) (cond z (refused (9 on k)) passes)
  unfolding name_verdict first_of
  label_by {z = z} e f o g =
      let a : names (place_in s starts keys vs ms c) ≡ held =
      names-all c held vs ms held-long (omega (arith, lent.fair.few, lent.values_long)) in
      let w : length (spelled line n) ≡ n.end - n.start = spelled-length line n lent.within in
      let q : among (spelled line n) held ≡ z =
      among-place (spelled line n) held
      ∙ ap₂ (λ (u : List ℕ) (m : ℕ). ltb (labels_before u held) m) (spelled-window line n lent.order lent.within) held-long
      ∙ ap (λ (m : ℕ). ltb m count) (sym o)
      ∙ g in
      rw (a, w, held-long, e, f, q)

  -- one label more, in rows that `hold` has written
  pub label-held : (starts' keys' : List ℕ) → words s starts' keys' (count + 1) ≡ held ++ (window line n.start (n.end - n.start) ∷ [])
      → place_in s starts' keys' vs ms (record { at = c.at; bound = c.bound; waiting = c.waiting + 1 })
      ≡ labelled (place_in s starts keys vs ms c) line (Some n)
  label-held starts' keys' e =
      let l = held-long in
      let i : c.bound + (c.waiting + 1) ≡ count + 1 = omega arith in
      let x = window line n.start (n.end - n.start) in
      let t : take c.bound (held ++ (x ∷ [])) ≡ take c.bound held = take-append-le c.bound held (x ∷ []) (omega arith) in
      let d : drop c.bound (held ++ (x ∷ [])) ≡ drop c.bound held ++ (x ∷ []) = drop-append-le c.bound held (x ∷ []) (omega arith) in
      let y : x ≡ spelled line n = sym (spelled-window line n lent.order lent.within) in
      ap (λ (ws : List (List ℕ)). state (take c.bound ws) (drop c.bound ws)) (ap (words s starts' keys') i ∙ e)
      ∙ ap₂ state t (d ∙ ap (λ (u : List ℕ). drop c.bound held ++ (u ∷ [])) y)
    where
      state : List (List ℕ) → List (List ℕ) → Place
      state us ws = record { at = c.at.0; bound = zipped us vs; waiting = ws; marks = ms }

-- a label lies within its line
pub label-within : (line : List ℕ) {n : Name} → (line_read line).label ≡ Some n → (n.start ≤ n.end) × (n.end ≤ length line)
label-within line {n} e = let h = Statements.label-within line ((Statements.label-exactly line n).0 e) in (omega (arith, h.0), h.1)
