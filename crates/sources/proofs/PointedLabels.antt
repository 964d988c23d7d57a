-- Where 13 and 14 point: labels and their columns go line by line in step, and the refused one is its line's second exactly where the label
-- before it has the same line.
use Prim.Native.Nat.{ℕ, suc, ◌+◌, ◌-◌, ◌<◌}
use mathlib.Core.Bool.{Bool, true, false}
use mathlib.Core.List.{List, [], ◌∷◌, ◌++◌, map}
use mathlib.Core.Logic.{◌⊎◌, inl, inr}
use mathlib.Core.Path.{◌≡◌, refl, ap, ◌∙◌}
use native.Mathlib.Omega.{arith}
use lib.Dec.{eqb}
use borrow.Author.Tests.{eq-eqb, ne_eqb}
use Rattle.isa.specs.declared.Opcode.{Opcode}
use Rattle.tokens.specs.Reading.{lines_of}
use Rattle.std.proofs.Common.{Option, Some, None, Result, Ok, Err}
use Rattle.statements.specs.declared.Statement.{Statement}
use Rattle.statements.specs.declared.Failure.{Failure}
use Rattle.values.specs.declared.Name.{Name}
use Rattle.operands.specs.declared.Given.{Given}
use Rattle.statements.specs.FirstFailing.{First}
use Rattle.statements.specs.Statements.{Reading, Says}
use Rattle.statements.specs.Judging.{judged, claim_of}
use Rattle.statements.specs.Reading.{line_read}
use Rattle.statements.specs.declared.LineRead.{LineRead}
use Rattle.statements.specs.declared.Statement.TheVariants.{Nothing, Instruction, Org, Equ, Res, Data, End}
use Rattle.statements.proofs.Top as Lines
use Rattle.columns.specs.Columns.{name_column, line_after, line_numbered}
use Rattle.columns.proofs.Top as OfColumns
use Rattle.sources.specs.Sources.{Said, UpToEnd, over, ends, more}
use Rattle.sources.specs.Placing.{Bound, Judged, judged_line, next_from}
use Rattle.sources.specs.Uses.{known, unknown, value_of, Use, use_by, second_cell, uses_by, uses_read, uses_of}
use Rattle.sources.specs.Order.{Refusal, TooFar, use_checks}
use Rattle.sources.specs.Pointing.{Columns, columns_in, columns_read, columns_of, column_checks}
use Rattle.sources.specs.Inner.Assembling.{is_unknown, too_far, is_refused, second_refused}
use Rattle.sources.proofs.Tests.{Decides, or_decides, unknown_decides, far_decides}

module _ (bs : List Bound) (u : Use) where
  abbrev Unknown : Type 0
  Unknown = value_of bs u.name ≡ unknown

  abbrev Far : Type 0
  Far = (v : ℕ) × (value_of bs u.name ≡ known v) × TooFar u.counted v

  refused_decides : Decides (is_refused bs u) (Unknown ⊎ Far)
  refused_decides =
      let v = value_of bs u.name in
      or_decides (is_unknown v) (too_far u.counted v) (unknown_decides v) (far_decides u.counted v)

  stays : (Unknown → ⊥) → (Far → ⊥) → is_refused bs u ≡ false
  stays n f = go (is_refused bs u) refl
    where
      neither : Unknown ⊎ Far → ⊥
      neither (inl x) = n x
      neither (inr x) = f x

      go : (b : Bool) → is_refused bs u ≡ b → is_refused bs u ≡ false
      go true e = absurd (neither (refused_decides.1 e))
      go false e = e

module _ (source : List ℕ) (bs : List Bound) where
  -- behind a label on a line, the first of some that is refused has the column that is found for it
  abbrev Found : ℕ → List Use → List Columns → Type 0
  Found before us cs =
      (why : Refusal) → First (use_checks bs us) why
      → (c : ℕ) × First (column_checks bs us cs) c × (name_column (line_numbered source why.line) why.number (second_refused before bs us) ≡ c)

  -- a label's columns are those found, as its line's second or not
  abbrev Names : ℕ → Bool → Columns → Type 0
  Names k second c =
      (name_column (line_numbered source k) 13 second ≡ c.label_at) × (name_column (line_numbered source k) 14 second ≡ c.operand_at)

  -- ---- one label, then the others

  one : (before : ℕ) (u : Use) (c : Columns) (us : List Use) (cs : List Columns) → Names u.line (eqb u.line before) c → Found u.line us cs
      → Found before (u ∷ us) (c ∷ cs)
  unfolding use_checks column_checks First second_refused
  one before u c us cs h others why (inl (x, e)) =
      let r : is_refused bs u ≡ true = (refused_decides bs u).0 (inl x) in
      (c.label_at, inl (x, refl), rw (r, ← e) h.0)
  one before u c us cs h others why (inr (n, inl (x, e))) =
      let r : is_refused bs u ≡ true = (refused_decides bs u).0 (inr x) in
      (c.operand_at, inr (n, inl (x, refl)), rw (r, ← e) h.1)
  one before u c us cs h others why (inr (n, inr (f, g))) =
      let r : is_refused bs u ≡ false = stays bs u n f in
      let x = others why g in
      (x.0, inr (n, inr (f, x.1)), rw r x.2)

  -- ---- one line, then the others

  module _ (k at : ℕ) (before : ℕ) (bytes : List ℕ) (us : List Use) (cs : List Columns) (later : before < k) (here : line_numbered source k ≡ bytes)
      (others : (b : ℕ) → b < k + 1 → Found b us cs) where
    none_here : Found before us cs
    none_here = others before (omega (arith, later))

    behind-here : Found k us cs
    behind-here = others k (omega arith)

    -- in the line's own words
    named : {second : Bool} (b : Bool) (c : Columns) → second ≡ b → (name_column bytes 13 b ≡ c.label_at) × (name_column bytes 14 b ≡ c.operand_at)
        → Names k second c
    named b c e h = rw (here, e) h

    first-here : eqb k before ≡ false
    first-here = ne_eqb k before (λ q. omega (arith, q, later))

    module _ {op : Opcode} {a b : Given} (says : (line_read bytes).statement ≡ Ok (Instruction op a b)) where
      abbrev next : ℕ
      next = at + claim_of (Instruction op a b)

      by_labels : (l m : Option Name) → a.label ≡ l → b.label ≡ m
          → Found before ((use_by k bytes (at + 1) next a.operand l ++ use_by k bytes (second_cell at a) next b.operand m) ++ us)
          ((columns_in bytes l ++ columns_in bytes m) ++ cs)
      by_labels None None e f = none_here
      by_labels (Some n) None e f = one before _ _ us cs (named false _ first-here (OfColumns.first-name bytes says e)) behind-here
      by_labels None (Some n) e f = one before _ _ us cs (named false _ first-here (OfColumns.only-name bytes says false e f)) behind-here
      by_labels (Some m) (Some n) e f =
          one before _ _ (_ ∷ us) (_ ∷ cs) (named false _ first-here (OfColumns.first-name bytes says e))
          (one k _ _ us cs (named true _ (eq-eqb k k refl) (OfColumns.second-name bytes says e f)) behind-here)

    by_statement : (s : Result Statement Failure) → (line_read bytes).statement ≡ s → Found before (uses_read k bytes at s ++ us) (columns_read bytes s ++ cs)
    unfolding uses_by
    by_statement (Ok Nothing) e = none_here
    by_statement (Ok (Instruction op a b)) e = by_labels e a.label b.label refl refl
    by_statement (Ok (Org v)) e = none_here
    by_statement (Ok (Equ v)) e = none_here
    by_statement (Ok (Res v)) e = none_here
    by_statement (Ok (Data n)) e = none_here
    by_statement (Ok End) e = none_here
    by_statement (Err why) e = none_here

  -- ---- line by line

  -- each of some lines, the k-th the first of them, is the source's, and reads as it is judged
  unfoldable Located : ℕ → List Judged → Type 0
  Located k [] = Unit {0}
  Located k (x ∷ xs) = (line_numbered source k ≡ x.bytes) × ((line_read x.bytes).statement ≡ x.read.statement) × Located (k + 1) xs

  lines-found : (k at before : ℕ) (xs : List Judged) → before < k → Located k xs → Found before (uses_of k at xs) (columns_of xs)
  unfolding Located uses_of columns_of use_checks First
  lines-found k at before [] l h = λ why f. absurd f
  lines-found k at before (x ∷ xs) l h =
      by_statement k at before x.bytes (uses_of (k + 1) (next_from at x) xs) (columns_of xs) l h.0
      (λ b m. lines-found (k + 1) (next_from at x) b xs m h.2) x.read.statement h.1

  -- the lines of a source up to END, from the k-th on
  module _ (k : ℕ) (b : List ℕ) (ls : List (List ℕ)) (there : (j : ℕ) → line_numbered source (k + j) ≡ line_after (b ∷ ls) j) where
    first-line : line_numbered source k ≡ b
    unfolding line_after
    first-line = let e : k ≡ k + 0 = omega arith in ap (line_numbered source) e ∙ there 0

    onward : (j : ℕ) → line_numbered source (k + 1 + j) ≡ line_after ls j
    unfolding line_after
    onward j = let e : k + 1 + j ≡ k + suc j = omega arith in ap (line_numbered source) e ∙ there (suc j)

  judged_so : (bytes : List ℕ) {l : Option Name} {r : Reading} → Says bytes l r → (line_read bytes).statement ≡ judged r
  judged_so bytes s = ap (λ (a : LineRead). a.statement) (Lines.read-judged bytes s)

  located : {ls : List (List ℕ)} {xs : List Said} (k : ℕ) → ((j : ℕ) → line_numbered source (k + j) ≡ line_after ls j) → UpToEnd ls xs
      → Located k (map judged_line xs)
  unfolding Located
  located k there over = tt
  located k there (ends {bytes} {lines} s) = (first-line k bytes lines there, judged_so bytes s, tt)
  located k there (more {bytes} {lines} s not_end u) = (first-line k bytes lines there, judged_so bytes s, located (k + 1) (onward k bytes lines there) u)

  -- of a whole source
  pub labels-found : {xs : List Said} → UpToEnd (lines_of source) xs → Found 0 (uses_of 1 0 (map judged_line xs)) (columns_of (map judged_line xs))
  labels-found {xs} u = lines-found 1 0 0 (map judged_line xs) (omega arith) (located 1 from_first u)
    where
      from_first : (j : ℕ) → line_numbered source (1 + j) ≡ line_after (lines_of source) j
      from_first j = let e : 1 + j - 1 ≡ j = omega arith in ap (line_after (lines_of source)) e
