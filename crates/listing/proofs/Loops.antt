-- The two loops over the addresses: what each has done, and what is left, is what the whole listing asks.
use Prim.Native.Nat.{ℕ, ◌+◌, ◌*◌, ◌≤◌, ◌<◌}
use mathlib.Core.Bool.{true, false≢true}
use mathlib.Core.List.{List, [], ◌∷◌, ◌++◌}
use mathlib.Core.Path.{◌≡◌, refl, sym, ap, subst, ◌∙◌}
use native.Mathlib.Nat.{add_assoc}
use native.Mathlib.Omega.{arith}
use lib.ListN.{length, length-append}
use Rattle.codes.specs.Limits.{most_cells}
use Rattle.numerals.specs.Bytes.{LF}
use Rattle.image.specs.Printing.{good_loan}
use Rattle.image.proofs.Outcomes.{loan-good}
use Rattle.isa.specs.declared.Address.{Address}
use Rattle.ports.specs.Overwriting.{overwrite}
use Rattle.texts.specs.Inner.Wrote.{Wrote}
use Rattle.texts.proofs.Rooms.{overwrite_on}
use Rattle.listing.specs.Pieces.{text_of}
use Rattle.listing.specs.Lines.{line_of, text_of_lines}
use Rattle.listing.specs.Inner.Walk.{Found, found, failing, lines_of}
use Rattle.listing.specs.Inner.Begins.{begins_at, rest, line_text, found_text, was_found, measure_of, Addressed, longest_lines}
use Rattle.listing.specs.declared.Begins.{Begins}
use Rattle.listing.specs.declared.Begins.TheVariants as B
use Rattle.listing.specs.declared.Entry.{Entry}
use Rattle.listing.specs.declared.Entry.TheVariants.{Finish}
use Rattle.std.proofs.Common.{Result, Ok, Err}
use Rattle.listing.proofs.Walks.{line_before, Goes, goes, rest_end, line-text}

-- ---- a line, and those behind it

-- a measure with so much before it
abbrev pub plus : ℕ → Result ℕ Address → Result ℕ Address
plus n (Ok m) = Ok (n + m)
plus n (Err a) = Err a

plus_none : (m : Result ℕ Address) → plus 0 m ≡ m
plus_none (Ok n) = let z : 0 + n ≡ n = omega arith in ap Ok z
plus_none (Err a) = refl

plus-plus : (a b : ℕ) (m : Result ℕ Address) → plus a (plus b m) ≡ plus (a + b) m
plus-plus a b (Ok n) = ap Ok (sym (add_assoc a b n))
plus-plus a b (Err f) = refl

measure_line : (behind at : ℕ) (e : Entry) (f : Found)
    → measure_of (line_before behind at e f) ≡ plus (length (line_text behind at e)) (measure_of f)
measure_line behind at e (found es) =
    ap Ok (ap length (line-text behind at e es) ∙ length-append (line_text behind at e) (text_of_lines es))
measure_line behind at e (failing a) = refl

found-line : (behind at : ℕ) (e : Entry) (f : Found) → was_found (line_before behind at e f) ≡ true
    → (was_found f ≡ true) × (found_text (line_before behind at e f) ≡ line_text behind at e ++ found_text f)
found-line behind at e (found es) w = (refl, line-text behind at e es)
found-line behind at e (failing a) w = absurd (false≢true w)

-- "`END` last"
last-text : text_of_lines (Finish ∷ []) ≡ line_of Finish ++ (LF ∷ [])
unfolding text_of_lines
last-text = refl

last-length : length (text_of_lines (Finish ∷ [])) ≡ 4
unfolding text_of_lines text_of
last-length = refl

-- ---- what the loops keep

-- measuring: what is measured, and the measure of what is left
pub record Measuring (memory marks : List ℕ) (n behind at : ℕ) : Type 0 where
  pub within : at ≤ length marks
  pub bounded : n ≤ longest_lines * at
  pub measures : plus n (measure_of (rest memory marks behind at)) ≡ measure_of (lines_of memory marks)

-- writing: the rest still has to be written behind what is
pub record Writing (xs memory marks room : List ℕ) (put behind at : ℕ) : Type 0 where
  pub as_long : length room ≡ length xs
  pub within : at ≤ length marks
  pub decodes : was_found (rest memory marks behind at) ≡ true
  pub lengths : put + length (found_text (rest memory marks behind at)) ≡ length (found_text (lines_of memory marks))
  pub writes : overwrite room put (found_text (rest memory marks behind at)) ≡ overwrite xs 0 (found_text (lines_of memory marks))

pub measuring_start : (memory marks : List ℕ) → Measuring memory marks 0 0 0
measuring_start memory marks = record { within = omega arith; bounded = omega arith; measures = plus_none (measure_of (lines_of memory marks)) }

pub writing_start : (xs memory marks : List ℕ) → was_found (lines_of memory marks) ≡ true → Writing xs memory marks xs 0 0 0
writing_start xs memory marks w = record { as_long = refl; within = omega arith; decodes = w; lengths = omega arith; writes = refl }

module _ (memory marks : List ℕ) (good : good_loan memory marks ≡ true) where
  alike : length marks ≡ length memory
  alike = (loan-good memory marks good).0

  pub most : length marks ≤ most_cells
  most = let g = loan-good memory marks good in omega (arith, g.0, g.1)

  ended : (behind at : ℕ) → length marks ≤ at → rest memory marks behind at ≡ found (Finish ∷ [])
  ended behind at over = rest_end memory marks alike behind at (omega (arith, alike))

  -- what begins at an address that is there
  module _ (behind at : ℕ) (there : at < length marks) {b : Begins} (is : b ≡ begins_at memory marks at) where
    begun : {c : Begins} → b ≡ c → Goes memory marks alike behind at c
    begun e = subst (Goes memory marks alike behind at) (sym is ∙ e) (goes memory marks alike behind at (omega (arith, alike)) (omega (arith, most, alike)))

    skipped : b ≡ B.Nothing → rest memory marks behind at ≡ rest memory marks behind (at + 1)
    skipped e = begun e

    failed : b ≡ B.Fails → rest memory marks behind at ≡ failing at
    failed e = begun e

    module _ {e : Entry} {n : Address} (line : b ≡ B.Line e n) where
      lined : rest memory marks behind at ≡ line_before behind at e (rest memory marks n.0 n.0)
      lined = (begun line).0

      pub onward : (at < n.0) × (n.0 ≤ length marks)
      onward = let g = begun line in (g.1, omega (arith, g.2, alike))

      -- what the functions that write it ask
      pub line-good : (at < most_cells) × Addressed e
      line-good = (omega (arith, most), (begun line).3)

-- ---- measuring

module _ {memory marks : List ℕ} {k behind at : ℕ} (inv : Measuring memory marks k behind at) (good : good_loan memory marks ≡ true) where
  module _ (there : at < length marks) {b : Begins} (is : b ≡ begins_at memory marks at) where
    pub measuring_skip : b ≡ B.Nothing → Measuring memory marks k behind (at + 1)
    measuring_skip e = record {
      within = omega arith;
      bounded = omega (arith, inv.bounded);
      measures = ap (λ (f : Found). plus k (measure_of f)) (sym (skipped memory marks good behind at there is e)) ∙ inv.measures;
    }

    pub measuring_line : {e : Entry} {n : Address} {r : ℕ} → b ≡ B.Line e n → (r ≡ length (line_text behind at e)) × (r ≤ longest_lines)
        → Measuring memory marks (k + r) n.0 n.0
    measuring_line {e} {n} {r} line long =
        let o = onward memory marks good behind at there is line in
        let f = rest memory marks n.0 n.0 in
        let z : plus k (measure_of (rest memory marks behind at)) ≡ plus (k + r) (measure_of f) =
        ap (λ (g : Found). plus k (measure_of g)) (lined memory marks good behind at there is line)
        ∙ ap (plus k) (measure_line behind at e f)
        ∙ plus-plus k (length (line_text behind at e)) (measure_of f)
        ∙ ap (λ (m : ℕ). plus (k + m) (measure_of f)) (sym long.0) in
        record { within = o.1; bounded = omega (arith, o.0, long.1, inv.bounded); measures = sym z ∙ inv.measures }

    pub measuring_fails : b ≡ B.Fails → Err (record { 0 = at }) ≡ measure_of (lines_of memory marks)
    measuring_fails e = sym (ap (λ (f : Found). plus k (measure_of f)) (failed memory marks good behind at there is e)) ∙ inv.measures

  pub measuring_end : length marks ≤ at → Ok (k + 4) ≡ measure_of (lines_of memory marks)
  measuring_end over =
      ap (λ (n : ℕ). Ok (k + n)) (sym last-length)
      ∙ sym (ap (λ (f : Found). plus k (measure_of f)) (ended memory marks good behind at over)) ∙ inv.measures

-- ---- writing

module _ {xs memory marks room : List ℕ} {put behind at : ℕ} (inv : Writing xs memory marks room put behind at)
    (good : good_loan memory marks ≡ true) where
  module _ (there : at < length marks) {b : Begins} (is : b ≡ begins_at memory marks at) where
    pub writing-skip : b ≡ B.Nothing → Writing xs memory marks room put behind (at + 1)
    writing-skip e =
        let s = skipped memory marks good behind at there is e in
        record {
          as_long = inv.as_long;
          within = omega arith;
          decodes = ap was_found (sym s) ∙ inv.decodes;
          lengths = ap (λ (f : Found). put + length (found_text f)) (sym s) ∙ inv.lengths;
          writes = ap (λ (f : Found). overwrite room put (found_text f)) (sym s) ∙ inv.writes;
        }

    pub writing-fails : b ≡ B.Fails → ⊥
    writing-fails e = false≢true (sym (ap was_found (failed memory marks good behind at there is e)) ∙ inv.decodes)

    module _ {e : Entry} {n : Address} (line : b ≡ B.Line e n) where
      left : (was_found (rest memory marks n.0 n.0) ≡ true)
          × (found_text (rest memory marks behind at) ≡ line_text behind at e ++ found_text (rest memory marks n.0 n.0))
      left =
          let s = lined memory marks good behind at there is line in
          let t = found-line behind at e (rest memory marks n.0 n.0) (sym (ap was_found s) ∙ inv.decodes) in
          (t.0, ap found_text s ∙ t.1)

      text-length : length (found_text (rest memory marks behind at))
          ≡ length (line_text behind at e) + length (found_text (rest memory marks n.0 n.0))
      text-length = ap length left.1 ∙ length-append (line_text behind at e) (found_text (rest memory marks n.0 n.0))

      pub writing-fits : length (found_text (lines_of memory marks)) ≤ length xs → put + length (line_text behind at e) ≤ length room
      writing-fits h = omega (arith, text-length, inv.as_long, inv.lengths)

      pub writing-line : {after : List ℕ} {to : ℕ} → length (found_text (lines_of memory marks)) ≤ length xs
          → Wrote room put (line_text behind at e) after to → length after ≡ length room
          → Writing xs memory marks after to n.0 n.0
      writing-line {after} {to} h w l =
          let t = found_text (rest memory marks n.0 n.0) in
          let on = overwrite_on room put (line_text behind at e) t (omega (arith, writing-fits h)) in
          record {
            as_long = l ∙ inv.as_long;
            within = (onward memory marks good behind at there is line).1;
            decodes = left.0;
            lengths = omega (arith, text-length, inv.lengths, w.0);
            writes =
                ap (λ (k : ℕ). overwrite after k t) w.0
                ∙ ap (λ (ys : List ℕ). overwrite ys (put + length (line_text behind at e)) t) w.1 ∙ on
                ∙ ap (overwrite room put) (sym left.1) ∙ inv.writes;
          }

  -- at the end
  module _ (over : length marks ≤ at) where
    end-text : found_text (rest memory marks behind at) ≡ line_of Finish ++ (LF ∷ [])
    end-text = ap found_text (ended memory marks good behind at over) ∙ last-text

    pub end_fits : length (found_text (lines_of memory marks)) ≤ length xs → put + length (line_of Finish ++ (LF ∷ [])) ≤ length room
    end_fits h = omega (arith, ap length end-text, inv.as_long, inv.lengths)

    pub writing-end : {after : List ℕ} {to : ℕ} → Wrote room put (line_of Finish ++ (LF ∷ [])) after to
        → after ≡ overwrite xs 0 (found_text (lines_of memory marks))
    writing-end w = w.1 ∙ ap (overwrite room put) (sym end-text) ∙ inv.writes
