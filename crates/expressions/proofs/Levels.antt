-- The scan for the parenthesis that opens a level past the deepest finds the one of the row's tree: the leftmost.
use Prim.Native.Nat.{ℕ, ◌+◌, ◌-◌, ◌≤◌, ◌<◌}
use Prim.Native.Char.{code}
use mathlib.Core.Bool.{Bool, true, false, cond}
use mathlib.Core.List.{List, [], ◌∷◌, ◌++◌, append_assoc, append-nil}
use mathlib.Core.Path.{◌≡◌, refl, sym, ap, ◌∙◌}
use native.Mathlib.Omega.{arith}
use lib.Dec.{leb}
use borrow.Author.Tests.{leb-true, leb-false, le-leb, lt-leb, ne_eqb}
use Rattle.codes.specs.Limits.{deepest}
use Rattle.numerals.specs.declared.Radix.{Radix}
use Rattle.tokens.specs.Marks.{IsMark}
use Rattle.tokens.specs.Reading.{token_at, tokens_from}
use Rattle.tokens.specs.declared.Kind.TheVariants as K
use Rattle.tokens.specs.declared.Token.{Token}
use Rattle.expressions.specs.Grammar.{one_product, sum, one_factor, product, literal as numeral, parentheses}
use Rattle.expressions.specs.Reading.{kind_symbol, Outcome, reads, wrong}
use Rattle.expressions.specs.Places.{Placed, literal_at, node_at, enclosed_at, PlacedExpression, placed_read, Place, here, nowhere, leftmost, deep_from, deep_at, place_or, deep_judged, too_deep_in}
use Rattle.expressions.specs.Inner.Scanning.{scan_step, level_on, right_form, level_at}
use Rattle.expressions.specs.declared.Operation.{Operation}
use Rattle.std.proofs.Common.{Option, Some, None}
use Rattle.expressions.specs.declared.Scan.{Scan}
use Rattle.expressions.specs.declared.Symbol.{Symbol}
use Rattle.expressions.specs.declared.Symbol.TheVariants as Y
use Rattle.expressions.proofs.Meanings.{sum-mark, product-mark, open_mark, shut-mark}
use Rattle.expressions.proofs.Readings.{sound}
use Rattle.expressions.proofs.Rows.{Begins, ended, some, begins}
use Rattle.expressions.proofs.Scans.{is_read, form-read, steps_as, on_by}
use Rattle.expressions.proofs.Steps.{never}

-- ---- a token of the scan

module _ (t : Token) (ts : List Token) (q : Bool) (h : ℕ) {q' : Bool} {h' : ℕ} (e : scan_step (kind_symbol t.kind) q h ≡ Some (record { operand = q'; height = h' })) where
  pub goes_on_lem : h' ≤ deepest → level_at (t ∷ ts) q h ≡ level_at ts q' h'
  unfolding level_at
  goes_on_lem l =
      ap (λ (r : Option Scan). level_on r t.start (λ q h. level_at ts q h)) e
      ∙ ap (λ (b : Bool). cond b (level_at ts q' h') t.start) (le-leb h' 32 l)

  pub goes-past : deepest < h' → level_at (t ∷ ts) q h ≡ t.start
  unfolding level_at
  goes-past l =
      ap (λ (r : Option Scan). level_on r t.start (λ q h. level_at ts q h)) e
      ∙ ap (λ (b : Bool). cond b (level_at ts q' h') t.start) (lt-leb h' 32 l)

step_as : {y z : Symbol} (q : Bool) (h : ℕ) {r : Option Scan} → y ≡ z → scan_step z q h ≡ r → scan_step y q h ≡ r
step_as q h e f = ap (λ (y : Symbol). scan_step y q h) e ∙ f

shuts_one : (h : ℕ) → scan_step Y.Shuts false (h + 1) ≡ Some (record { operand = false; height = h })
shuts_one h =
    let e : h + 1 - 1 ≡ h = omega arith in
    ap (λ (b : Bool). cond b None (Some (record { operand = false; height = (h + 1 - 1) }))) (ne_eqb (h + 1) 0 (λ z. omega (arith, z))) ∙ ap (λ (h : ℕ). Some (record { operand = false; height = h })) e

-- ---- a row's tree

place-leftmost : (x y : Place) (none : ℕ) → place_or x (place_or y none) ≡ place_or (leftmost x y) none
place-leftmost (here at) y none = refl
place-leftmost nowhere y none = refl

-- what a part's tokens do to the scan, whatever follows
abbrev Levels : List Token → Placed → Type 0
Levels ts p = (rest : List Token) (h : ℕ) → h ≤ deepest → level_at (ts ++ rest) true h ≡ place_or (deep_from h p) (level_at rest false h)

level_node : (ts us : List Token) (a b : Placed) (o : Operation) (t : Token)
    → ((h : ℕ) → scan_step (kind_symbol t.kind) false h ≡ Some (record { operand = true; height = h })) → Levels ts a → Levels us b → Levels (ts ++ (t ∷ us)) (node_at t o a b)
unfolding deep_from
level_node ts us a b o t m f g rest h l =
    rw append_assoc
    (f (t ∷ (us ++ rest)) h l
    ∙ ap (place_or (deep_from h a)) (goes_on_lem t (us ++ rest) false h (m h) l ∙ g rest h l)
    ∙ place-leftmost (deep_from h a) (deep_from h b) (level_at rest false h))

level_literal : (t : Token) (v : ℕ) (k : Radix) → t.kind ≡ K.Number v k → Levels (t ∷ []) (literal_at t v)
unfolding deep_from
level_literal t v k e rest h l = goes_on_lem t rest true h (step_as true h (ap kind_symbol e) refl) l

level_parentheses : (a z : Token) (ts : List Token) (p : Placed) → IsMark (code "(") a → IsMark (code ")") z → Levels ts p
    → Levels (a ∷ (ts ++ (z ∷ []))) (enclosed_at a p)
unfolding deep_from
level_parentheses a z ts p m n f rest h l = rw append_assoc (go (leb (h + 1) deepest) refl)
  where
    opens : scan_step (kind_symbol a.kind) true h ≡ Some (record { operand = true; height = (h + 1) })
    opens = step_as true h (open_mark a m) refl

    go : (q : Bool) → leb (h + 1) deepest ≡ q
        → level_at (a ∷ (ts ++ (z ∷ rest))) true h ≡ place_or (cond q (deep_from (h + 1) p) (here a.start)) (level_at rest false h)
    go true e =
        let d = leb-true (h + 1) deepest e in
        goes_on_lem a (ts ++ (z ∷ rest)) true h opens d
        ∙ f (z ∷ rest) (h + 1) d
        ∙ ap (place_or (deep_from (h + 1) p)) (goes_on_lem z rest false (h + 1) (step_as false (h + 1) (shut-mark z n) (shuts_one h)) l)
    go false e = goes-past a (ts ++ (z ∷ rest)) true h opens (leb-false (h + 1) deepest e)

sum_levels : {ts : List Token} {p : Placed} → PlacedExpression ts p → Levels ts p
sum_levels s =
    elim s as (λ ts p s. Levels ts p) (λ ts p s. Levels ts p) (λ ts p s. Levels ts p) [
      | one_product (p → h) ↦ h
      | sum {ts} {us} {a} {b} {o} t (s → h) m (p → g) ↦ level_node ts us a b o t (λ d. step_as false d (sum-mark m) refl) h g
      | one_factor (f → h) ↦ h
      | product {ts} {us} {a} {b} {o} t (p → h) m (f → g) ↦ level_node ts us a b o t (λ d. step_as false d (product-mark m) refl) h g
      | numeral {t} {v} {k} e ↦ level_literal t v k e
      | parentheses {a} {ts} {v} z m (s → h) n ↦ level_parentheses a z ts v m n h
    ]

pub level_found : {ts : List Token} {p : Placed} → PlacedExpression ts p → level_at ts true 0 ≡ place_or (deep_at p) 0
unfolding level_at
level_found {ts} s = ap (λ (us : List Token). level_at us true 0) (sym (append-nil ts)) ∙ sum_levels s [] 0 (omega arith)

-- ---- the whole row, as the code meets it

module _ (ts : List Token) where
  by_form : {right : Bool} → right_form ts true 0 ≡ right → too_deep_in ts ≡ cond right (level_at ts true 0) 0
  unfolding too_deep_in
  by_form {right} e = go (placed_read ts) refl right (sym e ∙ form-read Placed literal_at node_at enclosed_at ts)
    where
      go : (r : Outcome Placed literal_at node_at enclosed_at) → placed_read ts ≡ r → (right : Bool)
          → right ≡ is_read Placed literal_at node_at enclosed_at (placed_read ts) → deep_judged (placed_read ts) ≡ cond right (level_at ts true 0) 0
      go (reads p) q true g = ap deep_judged q ∙ sym (level_found (sound Placed literal_at node_at enclosed_at ts p q))
      go (reads p) q false g = let z : false ≡ true = g ∙ ap (is_read Placed literal_at node_at enclosed_at) q in never (cc)
      go wrong q true g = let z : true ≡ false = g ∙ ap (is_read Placed literal_at node_at enclosed_at) q in never (cc)
      go wrong q false g = ap deep_judged q

  module _ {e : Bool} (f : e ≡ right_form ts true 0) where
    pub deep-right : {r : ℕ} → e ≡ true → r ≡ level_at ts true 0 → r ≡ too_deep_in ts
    deep-right g h = h ∙ sym (by_form (sym f ∙ g))

    pub deep-wrong : e ≡ false → 0 ≡ too_deep_in ts
    deep-wrong g = sym (by_form (sym f ∙ g))

-- ---- one token, as the code meets it

module _ (s : List ℕ) (at : ℕ) (q : Bool) (h : ℕ) {t : Token} (k : t ≡ token_at s at) {y : Symbol} (l : y ≡ kind_symbol t.kind)
    {r : Option Scan} (m : r ≡ scan_step y q h) where
  pub level_wrong : r ≡ None → level_at (tokens_from s at) q h ≡ 0
  unfolding level_at
  level_wrong n = go (begins s at)
    where
      go : {ts : List Token} → Begins s at ts → level_at ts q h ≡ 0
      go (ended x y) = refl
      go (some {ts} x) = ap (λ (r : Option Scan). level_on r (token_at s at).start (λ q h. level_at ts q h)) (steps_as s at q h k l m ∙ n)

  module _ {u : Scan} (n : r ≡ Some u) where
    row_as : tokens_from s at ≡ token_at s at ∷ tokens_from s (token_at s at).next.at
    row_as = (on_by s at q h k l m n).row

    pub level-on : u.height ≤ deepest → level_at (tokens_from s at) q h ≡ level_at (tokens_from s t.next.at) u.operand u.height
    level-on d =
        ap (λ (ts : List Token). level_at ts q h) row_as
        ∙ goes_on_lem (token_at s at) (tokens_from s (token_at s at).next.at) q h (steps_as s at q h k l m ∙ n) d
        ∙ ap (λ (t : Token). level_at (tokens_from s t.next.at) u.operand u.height) (sym k)

    pub level_past : deepest < u.height → level_at (tokens_from s at) q h ≡ t.start
    level_past d =
        ap (λ (ts : List Token). level_at ts q h) row_as
        ∙ goes-past (token_at s at) (tokens_from s (token_at s at).next.at) q h (steps_as s at q h k l m ∙ n) d
        ∙ ap (λ (t : Token). t.start) (sym k)
