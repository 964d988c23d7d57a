-- A whole line, from its parts.
use Prim.Native.Nat.{ℕ, ◌+◌}
use mathlib.Core.List.{List, append-nil}
use mathlib.Core.Path.{◌≡◌, refl, sym, ap, subst, ◌∙◌}
use Rattle.codes.specs.declared.refusals.Refusal.{Refusal}
use Rattle.std.proofs.Common.{Option, Some, None, Result, Ok, Err}
use Rattle.values.specs.declared.Name.{Name}
use Rattle.statements.specs.Judging.{number_of}
use Rattle.statements.specs.declared.Failure.{Failure}
use Rattle.statements.specs.declared.LineRead.{LineRead}
use Rattle.statements.specs.declared.Statement.{Statement}
use Rattle.sources.specs.Placing.{Place, does, does_read, labelled, acted, after, Judged}
use Rattle.sources.specs.Order.{◌on◌}
use Rattle.sources.specs.Inner.Assembling.{Verdict, passes, refused, and_then, label_verdict, own_verdict, act_verdict, line_verdict}
use Rattle.sources.specs.declared.Act.{Act}
use Rattle.labels.specs.Inner.Labels.{words}
use Rattle.placing.specs.Inner.State.{state_of, place_in, Keeps, Tells}
use Rattle.placing.specs.declared.Counters.{Counters}

-- ---- answers

-- another verdict and place that are the same
tells_as : (k : ℕ) {v w : Verdict} {p q : Place} (of : Counters → Place) (r : Result Counters Refusal) → w ≡ v → p ≡ q → Tells k v p of r → Tells k w q of r
tells_as k of (Ok c) e f h = (e ∙ h.0, h.1 ∙ f)
tells_as k of (Err n) e f h = e ∙ h

-- an answer by its case
pub tells_by : (k : ℕ) (v : Verdict) (p : Place) (of : Counters → Place) {r r' : Result Counters Refusal} → r ≡ r' → Tells k v p of r → Tells k v p of r'
tells_by k v p of e h = subst (Tells k v p of) e h

-- ---- the statement's own refusal

pub own-fails : (k : ℕ) {s : Result Statement Failure} {why : Failure} {n : ℕ} (v : Verdict) → s ≡ Err why → n ≡ number_of why
    → and_then (own_verdict k s) v ≡ refused (n on k)
own-fails k v e f = ap (λ (x : Result Statement Failure). and_then (own_verdict k x) v) e ∙ ap (λ (m : ℕ). refused (m on k)) (sym f)

pub own-passes : (M k : ℕ) (p : Place) (of : Counters → Place) {a : Act} {s : Result Statement Failure} {says : Statement} (r : Result Counters Refusal) → s ≡ Ok says
    → a ≡ does says
    → Tells k (act_verdict M k p a) (acted p a) of r
    → Tells k (and_then (own_verdict k s) (act_verdict M k p (does_read s))) (acted p (does_read s)) of r
own-passes M k p of r e f h =
    tells_as k of r
    (ap (λ (x : Result Statement Failure). and_then (own_verdict k x) (act_verdict M k p (does_read x))) e ∙ ap (act_verdict M k p) (sym f))
    (ap (acted p) f ∙ sym (ap (λ (x : Result Statement Failure). acted p (does_read x)) e)) h

-- ---- the label

module _ (M k : ℕ) (p : Place) (x : Judged) where
  -- what is judged once the label has passed
  abbrev rest : Place → Verdict
  rest q = and_then (own_verdict k x.read.statement) (act_verdict M k q (does_read x.read.statement))

  by_parts : line_verdict M k p x ≡ and_then (label_verdict k p x.bytes x.read.label) (rest (labelled p x.bytes x.read.label))
  unfolding line_verdict
  by_parts = refl

  unlabelled : labelled p x.bytes None ≡ p
  unlabelled = ap (λ (ws : List (List ℕ)). record { at = p.at; bound = p.bound; waiting = ws; marks = p.marks }) (append-nil p.waiting)

  absent-line : (of : Counters → Place) (r : Result Counters Refusal) → x.read.label ≡ None
      → Tells k (rest p) (acted p (does_read x.read.statement)) of r
      → Tells k (line_verdict M k p x) (after p x) of r
  unfolding after
  absent-line of r e h =
      let q : labelled p x.bytes x.read.label ≡ p = ap (labelled p x.bytes) e ∙ unlabelled in
      let l : label_verdict k p x.bytes x.read.label ≡ passes = ap (label_verdict k p x.bytes) e in
      tells_as k of r
      (by_parts ∙ ap (λ (v : Verdict). and_then v (rest (labelled p x.bytes x.read.label))) l ∙ ap rest q)
      (ap (λ (z : Place). acted z (does_read x.read.statement)) (sym q)) h

  pub label-fails : {l : Option Name} {f : ℕ} → x.read.label ≡ l → label_verdict k p x.bytes l ≡ refused (f on k)
      → line_verdict M k p x ≡ refused (f on k)
  label-fails e h =
      by_parts
      ∙ ap (λ (v : Verdict). and_then v (rest (labelled p x.bytes x.read.label))) (ap (label_verdict k p x.bytes) e ∙ h)

  label-passes : {l : Option Name} (of : Counters → Place) (q : Place) (r : Result Counters Refusal) → x.read.label ≡ l → label_verdict k p x.bytes l ≡ passes
      → q ≡ labelled p x.bytes l
      → Tells k (rest q) (acted q (does_read x.read.statement)) of r
      → Tells k (line_verdict M k p x) (after p x) of r
  unfolding after
  label-passes of q r e v d h =
      let g : labelled p x.bytes x.read.label ≡ q = ap (labelled p x.bytes) e ∙ sym d in
      tells_as k of r
      (by_parts
      ∙ ap (λ (w : Verdict). and_then w (rest (labelled p x.bytes x.read.label))) (ap (label_verdict k p x.bytes) e ∙ v)
      ∙ ap rest g)
      (ap (λ (z : Place). acted z (does_read x.read.statement)) (sym g)) h

-- the line as it was read
pub as_read : (M k : ℕ) (p : Place) (bytes : List ℕ) {read read' : LineRead} (of : Counters → Place) (r : Result Counters Refusal) → read ≡ read'
    → Tells k (line_verdict M k p (record { bytes = bytes; read = read })) (after p (record { bytes = bytes; read = read })) of r
    → Tells k (line_verdict M k p (record { bytes = bytes; read = read' })) (after p (record { bytes = bytes; read = read' })) of r
as_read M k p bytes of r e h =
    subst (λ (a : LineRead). Tells k (line_verdict M k p (record { bytes = bytes; read = a })) (after p (record { bytes = bytes; read = a })) of r) e h

-- the names stay where they are
keeps_of : (s starts keys vs ms : List ℕ) (k : ℕ) (v : Verdict) (p : Place) (n : ℕ) (r : Result Counters Refusal) → Keeps n r
    → Tells k v p (state_of (words s starts keys n) vs ms) r
    → Tells k v p (place_in s starts keys vs ms) r
keeps_of s starts keys vs ms k v p n (Ok c) e h = (h.0, ap (λ (i : ℕ). state_of (words s starts keys i) vs ms c) e ∙ h.1)
keeps_of s starts keys vs ms k v p n (Err f) e h = h

-- ---- the line

module _ (M k : ℕ) (s starts keys starts' keys' vs ms vs' ms' bytes : List ℕ) (c : Counters) (read : LineRead) where
  abbrev before : Place
  before = place_in s starts keys vs ms c

  abbrev x : Judged
  x = record { bytes = bytes; read = read }

  abbrev stated : Place → Verdict
  stated q = and_then (own_verdict k read.statement) (act_verdict M k q (does_read read.statement))

  -- without a label it is its statement
  pub absent_placed : (r : Result Counters Refusal) → read.label ≡ None → Keeps (c.bound + c.waiting) r
      → Tells k (stated before) (acted before (does_read read.statement)) (state_of (words s starts keys (c.bound + c.waiting)) vs' ms') r
      → Tells k (line_verdict M k before x) (after before x) (place_in s starts keys vs' ms') r
  absent_placed r e f h =
      absent-line M k before x (place_in s starts keys vs' ms') r e
      (keeps_of s starts keys vs' ms' k (stated before) (acted before (does_read read.statement)) (c.bound + c.waiting) r f h)

  -- with a label that passes it is its statement, at the place with that label
  pub named_placed : {n : Name} (d : Counters) (r : Result Counters Refusal) → read.label ≡ Some n
      → Tells k (label_verdict k before bytes (Some n)) (labelled before bytes (Some n)) (place_in s starts' keys' vs ms) (Ok d)
      → Keeps (d.bound + d.waiting) r
      → Tells k (stated (place_in s starts' keys' vs ms d)) (acted (place_in s starts' keys' vs ms d) (does_read read.statement))
      (state_of (words s starts' keys' (d.bound + d.waiting)) vs' ms') r
      → Tells k (line_verdict M k before x) (after before x) (place_in s starts' keys' vs' ms') r
  named_placed d r e t f h =
      let q = place_in s starts' keys' vs ms d in
      label-passes M k before x (place_in s starts' keys' vs' ms') q r e t.0 t.1
      (keeps_of s starts' keys' vs' ms' k (stated q) (acted q (does_read read.statement)) (d.bound + d.waiting) r f h)
