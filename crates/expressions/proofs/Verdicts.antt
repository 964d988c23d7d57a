-- What a row is as an expression, and where its first fault is, by what the reader over what is found and the scan find.
use Prim.Native.Nat.{ℕ}
use mathlib.Core.Bool.{Bool, true, false, cond}
use mathlib.Core.List.{List, []}
use mathlib.Core.Path.{◌≡◌, refl, sym, ap, subst, ◌∙◌}
use lib.Dec.{leb, ltb}
use borrow.Author.Tests.{ltb-true, ltb-false, le-leb, lt-leb}
use Rattle.tokens.specs.Reading.{token_at, tokens_from}
use Rattle.tokens.specs.declared.Token.{Token}
use Rattle.codes.specs.Limits.{deepest}
use Rattle.expressions.specs.Trees.{Tree, literal_of, node_of, enclosed_of, depth}
use Rattle.expressions.specs.Reading.{nothing, Outcome, reads, wrong, operator, tree_read, judged, expression_read}
use Rattle.expressions.specs.Places.{Placed, literal_at, node_at, enclosed_at, placed_read, strip, found_of, plain, fault_place, fault_judged, fault_in}
use Rattle.expressions.specs.Inner.Scanning.{right_form, passes}
use Rattle.expressions.specs.Inner.Parts.{is_end, sums, Says, Answer, operand_f, operator_f}
use Rattle.expressions.specs.Places.{Found}
use Rattle.expressions.specs.Worths.{Worth}
use Rattle.std.proofs.Common.{Result, Ok, Err}
use Rattle.numerals.specs.declared.Read.{Read}
use Rattle.expressions.specs.declared.Malformed.{Malformed}
use Rattle.expressions.specs.declared.Malformed.TheVariants.{TooDeep, WrongForm}
use Rattle.expressions.proofs.Readings.{sound}
use Rattle.expressions.proofs.Folds.{stripped, read-stripped, evaluated, read-evaluated}
use Rattle.expressions.proofs.Scans.{is_read, form-read}
use Rattle.expressions.proofs.Depths.{deeper}
use Rattle.expressions.proofs.Rows.{row-ended}
use Rattle.expressions.proofs.Placed.{plain-found}
use Rattle.expressions.proofs.Steps.{never}
use Rattle.expressions.proofs.Operands.{sum_not_last}

-- a row is an answer, with its first fault at a place
abbrev pub Verdict : List Token → Result Worth Malformed → ℕ → Type 0
Verdict ts r at = (expression_read ts ≡ r) × (fault_in ts ≡ at)

module _ (ts : List Token) where
  -- a row's tree with places, found by the reader
  module _ {p : Placed} (e : placed_read ts ≡ reads p) where
    pub tree-read : tree_read ts ≡ reads (strip p)
    tree-read = read-stripped ts ∙ ap stripped e

    is_deeper : passes ts deepest ≡ ltb deepest (depth (strip p))
    is_deeper = deeper (sound Tree literal_of node_of enclosed_of ts (strip p) tree-read) deepest

    pub by_depth : {q : Bool} → leb (depth (strip p)) deepest ≡ q
        → Verdict ts (cond q (Ok (plain (found_of p))) (Err TooDeep)) (cond q (fault_place (found_of p)) 0)
    unfolding expression_read fault_in
    by_depth {q} l = (
      ap judged tree-read ∙ ap (λ (w : Worth). cond (leb (depth (strip p)) deepest) (Ok w) (Err TooDeep)) (sym (plain-found p))
          ∙ ap (λ (q : Bool). cond q (Ok (plain (found_of p))) (Err TooDeep)) l,
      ap fault_judged e ∙ ap (λ (q : Bool). cond q (fault_place (found_of p)) 0) l,
    )

    verdict-read : passes ts deepest ≡ false → Verdict ts (Ok (plain (found_of p))) (fault_place (found_of p))
    verdict-read f = by_depth (le-leb (depth (strip p)) 32 (ltb-false 32 (depth (strip p)) (sym is_deeper ∙ f)))

    verdict-deep : passes ts deepest ≡ true → Verdict ts (Err TooDeep) 0
    verdict-deep f = by_depth (lt-leb (depth (strip p)) 32 (ltb-true 32 (depth (strip p)) (sym is_deeper ∙ f)))

  pub verdict-wrong : placed_read ts ≡ wrong → Verdict ts (Err WrongForm) 0
  unfolding expression_read fault_in
  verdict-wrong e = (ap judged (read-stripped ts ∙ ap stripped e), ap fault_judged e)

  -- by the reader over what is found
  abbrev found_read : Answer
  found_read = operand_f ts nothing nothing []

  pub by_found : {w : Found} → found_read ≡ reads w → passes ts deepest ≡ false → Verdict ts (Ok (plain w)) (fault_place w)
  by_found {w} e f = go (placed_read ts) refl
    where
      go : (r : Outcome Placed literal_at node_at enclosed_at) → placed_read ts ≡ r → Verdict ts (Ok (plain w)) (fault_place w)
      go (reads p) q =
          let z : reads (found_of p) ≡ reads w = sym (read-evaluated ts ∙ ap evaluated q) ∙ e in
          let y : found_of p ≡ w = cc in
          subst (λ (w : Found). Verdict ts (Ok (plain w)) (fault_place w)) y (verdict-read q f)
      go wrong q =
          let z : wrong ≡ reads w = sym (read-evaluated ts ∙ ap evaluated q) ∙ e in
          never (cc)

  pub by_wrong : found_read ≡ wrong → Verdict ts (Err WrongForm) 0
  by_wrong e = go (placed_read ts) refl
    where
      go : (r : Outcome Placed literal_at node_at enclosed_at) → placed_read ts ≡ r → Verdict ts (Err WrongForm) 0
      go (reads p) q =
          let z : reads (found_of p) ≡ wrong = sym (read-evaluated ts ∙ ap evaluated q) ∙ e in
          never (cc)
      go wrong q = verdict-wrong q

  -- by the scan, where the height passes the limit
  pub by_scan : passes ts deepest ≡ true → {right : Bool} → right_form ts true 0 ≡ right → Verdict ts (cond right (Err TooDeep) (Err WrongForm)) 0
  by_scan f {right} e = go (placed_read ts) refl right (sym e ∙ form-read Placed literal_at node_at enclosed_at ts)
    where
      go : (r : Outcome Placed literal_at node_at enclosed_at) → placed_read ts ≡ r → (right : Bool)
          → right ≡ is_read Placed literal_at node_at enclosed_at (placed_read ts) → Verdict ts (cond right (Err TooDeep) (Err WrongForm)) 0
      go (reads p) q true g = verdict-deep q f
      go (reads p) q false g = let z : false ≡ true = g ∙ ap (is_read Placed literal_at node_at enclosed_at) q in never (cc)
      go wrong q true g = let z : true ≡ false = g ∙ ap (is_read Placed literal_at node_at enclosed_at) q in never (cc)
      go wrong q false g = verdict-wrong q

-- ---- by what the reader of sums gave, as the code meets it

module _ (s : List ℕ) (at : ℕ) where
  module _ (r : Read Found) (h : Says sums sums s at deepest (Ok r)) {t : Token} {e : Bool} (k : t ≡ token_at s r.next.at) (l : e ≡ is_end t.kind) where
    ends_as : is_end (token_at s r.next.at).kind ≡ e
    ends_as = sym (l ∙ ap (λ (t : Token). is_end t.kind) k)

    whole : e ≡ true → Verdict (tokens_from s at) (Ok (plain r.value)) (fault_place r.value)
    unfolding operator passes
    whole g =
        let u = row-ended s r.next.at (ends_as ∙ g) in
        by_found (tokens_from s at)
        (h.read [] ∙ ap (λ (ts : List Token). operator_f ts nothing r.value []) u)
        (h.room-left ∙ ap (λ (ts : List Token). passes ts deepest) u)

    more : e ≡ false → Verdict (tokens_from s at) (Err WrongForm) 0
    more g = by_wrong (tokens_from s at) (h.read [] ∙ sum_not_last s r.next.at r.value h.ends (ends_as ∙ g))

    pub found-whole : {w : Worth} → e ≡ true → w ≡ plain r.value → Ok w ≡ expression_read (tokens_from s at)
    found-whole g m = ap Ok m ∙ sym (whole g).0

    pub fault_whole : {n : ℕ} → e ≡ true → n ≡ fault_place r.value → n ≡ fault_in (tokens_from s at)
    fault_whole g m = m ∙ sym (whole g).1

    pub found-more : e ≡ false → Err WrongForm ≡ expression_read (tokens_from s at)
    found-more g = sym (more g).0

    pub fault_more : e ≡ false → 0 ≡ fault_in (tokens_from s at)
    fault_more g = sym (more g).1

  no_sum : Says sums sums s at deepest (Err WrongForm) → Verdict (tokens_from s at) (Err WrongForm) 0
  no_sum h = by_wrong (tokens_from s at) (h [])

  pub found-wrong : Says sums sums s at deepest (Err WrongForm) → Err WrongForm ≡ expression_read (tokens_from s at)
  found-wrong h = sym (no_sum h).0

  pub found-deep : Says sums sums s at deepest (Err TooDeep) → {r right : Bool} → r ≡ right_form (tokens_from s at) true 0 → r ≡ right → cond right (Err TooDeep) (Err WrongForm) ≡ expression_read (tokens_from s at)
  found-deep h e f = sym (by_scan (tokens_from s at) h (sym e ∙ f)).0

  pub fault_fails : (why : Malformed) → Says sums sums s at deepest (Err why) → 0 ≡ fault_in (tokens_from s at)
  fault_fails WrongForm h = sym (no_sum h).1
  fault_fails TooDeep h = sym (by_scan (tokens_from s at) h refl).1
