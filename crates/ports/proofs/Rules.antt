-- The answers follow the rules of specs/Rules.antt: arguments for Top.antt.
use mathlib.Core.Path.{◌≡◌, refl, sym, ap, subst, ◌∙◌}
use mathlib.Core.Logic.{◌⊎◌, inl, inr}
use mathlib.Core.Bool.{Bool, true, false, cond}
use mathlib.Core.List.{List, [], ◌∷◌, ◌++◌}
use Prim.Native.Nat.{ℕ, suc, ◌+◌, ◌≤◌, ◌<◌}
use native.Mathlib.Omega.{arith}
use borrow.Author.Tests.{lt-ltb, le-ltb, le-leb, lt-leb, ltb-true, ltb-false}
use lib.Dec.{ltb}
use lib.ListN.{length, drop, length-append, length-drop}
use Rattle.numerals.specs.Bytes.{LF}
use Rattle.numerals.specs.Reading.{line_number}
use Rattle.ports.specs.Overwriting.{overwrite}
use Rattle.ports.specs.Searching.{up_to}
use Rattle.codes.specs.Stops.{memory_end}
use Rattle.ports.specs.Input.{line_at, after_line, number_taken, passed, string_taken}
use Rattle.ports.specs.Output.{string_of, ends_in_zero}
use Rattle.ports.specs.Rules.{Free, Line, ended, last, StringFrom, Stands}
use Rattle.std.proofs.Common.{Ok, Err}
use Rattle.ports.proofs.Outcomes.{number-taken}
use Rattle.ports.proofs.Overwrites.{overwrite-there, overwrite-before, overwrite-after}
use Rattle.ports.proofs.Searches.{up_to-free, up_to-split, up_to_is, up_to-all, up_to-whole, meets-within}

pub stands : (xs : List ℕ) (at : ℕ) (ys : List ℕ) → at ≤ length xs → Stands xs at ys (overwrite xs at ys)
stands xs at ys h =
    record {
      there = overwrite-there xs at ys h;
      before = overwrite-before xs at ys h;
      after = overwrite-after xs at ys h;
    }

-- ---- lines

module _ (input : List ℕ) (at : ℕ) where
  parts : (line rest : List ℕ) → drop at input ≡ line ++ rest → length line + length rest ≡ length (drop at input)
  parts line rest e = sym (length-append line rest) ∙ ap length (sym e)

  pub line_is : {line : List ℕ} {next : ℕ} → Line input at line next → (line_at input at ≡ line) × (after_line input at ≡ next)
  unfolding after_line
  line_is {line} {next} (ended rest f e n) =
      let l : line_at input at ≡ line = ap (up_to LF) e ∙ up_to_is LF line rest f in
      let h : at + length line < length input = omega (arith, parts line (LF ∷ rest) e, length-drop at input) in
      (l, rw (l, lt-ltb _ _ h, n))
  line_is {line} {next} (last f e n) =
      let l : line_at input at ≡ line = ap (up_to LF) e ∙ up_to-all LF line f in
      let h : length input ≤ at + length line = omega (arith, ap length e, length-drop at input) in
      (l, rw (l, le-ltb _ _ h, n))

  pub every-line : Line input at (line_at input at) (after_line input at)
  unfolding after_line
  every-line = go (ltb (at + length (line_at input at)) (length input)) refl
    where
      go : (b : Bool) → ltb (at + length (line_at input at)) (length input) ≡ b
          → Line input at (line_at input at) (cond b (at + length (line_at input at) + 1) (at + length (line_at input at)))
      go true e =
          let h : at + length (line_at input at) < length input = ltb-true _ _ e in
          let l : length (line_at input at) < length (drop at input) = omega (arith, length-drop at input) in
          ended _ (up_to-free LF (drop at input)) (up_to-split LF (drop at input) (meets-within LF (drop at input) ∙ lt-ltb _ _ l)) refl
      go false e =
          let h : length input ≤ at + length (line_at input at) = ltb-false _ _ e in
          let l : length (drop at input) ≤ length (line_at input at) = omega (arith, length-drop at input) in
          last (up_to-free LF (drop at input)) (sym (up_to-whole LF (drop at input) l)) refl

  module _ {line : List ℕ} {next : ℕ} (here : at < length input) (its : Line input at line next) where
    pub line_read : number_taken input at ≡ Ok (record { value = line_number line; after = next })
    line_read = rw (← (line_is its).0, ← (line_is its).1) (number-taken input at here)

    pub line_stored : (m : List ℕ) (to : ℕ) → to + length line + 1 ≤ length m → string_taken m to input at ≡ passed (Ok next) (overwrite m to (line ++ (0 ∷ [])))
    unfolding string_taken
    line_stored m to h = rw ((line_is its).0, (line_is its).1, lt-ltb _ _ here, le-leb _ _ h)

    pub line_too_long : (m : List ℕ) (to : ℕ) → length m < to + length line + 1 → string_taken m to input at ≡ passed (Err memory_end) m
    unfolding string_taken
    line_too_long m to h = rw ((line_is its).0, lt-ltb _ _ here, lt-leb _ _ h)

-- ---- strings

module _ (m : List ℕ) (from : ℕ) where
  pub string_is : {cells : List ℕ} → StringFrom m from cells → (ends_in_zero (drop from m) ≡ true) × (string_of (drop from m) ≡ cells)
  string_is {cells} s =
      let u : string_of (drop from m) ≡ cells = ap (up_to 0) s.zero-follows ∙ up_to_is 0 cells s.rest s.none_is_zero in
      let n : length (string_of (drop from m)) ≡ length cells = ap length u in
      let l : length (drop from m) ≡ length cells + suc (length s.rest) = ap length s.zero-follows ∙ length-append cells (0 ∷ s.rest) in
      let h : length (string_of (drop from m)) < length (drop from m) = omega arith in
      (meets-within 0 (drop from m) ∙ lt-ltb _ _ h, u)

  pub string_or_none : StringFrom m from (string_of (drop from m)) ⊎ Free 0 (drop from m)
  string_or_none = go (ends_in_zero (drop from m)) refl
    where
      go : (b : Bool) → ends_in_zero (drop from m) ≡ b → StringFrom m from (string_of (drop from m)) ⊎ Free 0 (drop from m)
      go true e = inl (record { rest = _; none_is_zero = up_to-free 0 (drop from m); zero-follows = up_to-split 0 (drop from m) e })
      go false e =
          let h : length (drop from m) ≤ length (string_of (drop from m)) = ltb-false _ _ (sym (meets-within 0 (drop from m)) ∙ e) in
          inr (subst (Free 0) (up_to-whole 0 (drop from m) h) (up_to-free 0 (drop from m)))

  pub no_string : Free 0 (drop from m) → ends_in_zero (drop from m) ≡ false
  no_string f =
      let n : length (string_of (drop from m)) ≡ length (drop from m) = ap length (up_to-all 0 (drop from m) f) in
      let h : length (drop from m) ≤ length (string_of (drop from m)) = omega arith in
      meets-within 0 (drop from m) ∙ le-ltb _ _ h
