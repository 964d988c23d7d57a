-- What crates above may cite of the ports: rows keep their lengths, positions stay within, a refusal leaves the row as it was,
-- values and cells are cells.
use mathlib.Core.Path.{◌≡◌, refl, subst}
use mathlib.Core.Bool.{Bool, true, false, cond}
use mathlib.Core.Logic.{◌⊎◌, inl, inr}
use mathlib.Core.List.{List, [], ◌∷◌, ◌++◌, map}
use Prim.Native.Nat.{ℕ, zero, suc, ◌+◌, ◌≤◌, ◌<◌}
use native.Mathlib.Decide.{dec_le}
use native.Mathlib.Omega.{arith}
use borrow.Author.Tests.{le-leb, lt-leb, leb-true, ltb-true, ltb-false}
use lib.Dec.{eqb, leb, ltb}
use lib.IntN.{ℤ, pos, negsuc}
use lib.ListN.{length, get_or, take, drop, length-append}
use lib.Seq.{get_or-drop}
use mir.Syntax.{w16}
use mir.Val.{of_z}
use Rattle.numerals.specs.Bytes.{LF}
use Rattle.numerals.specs.Numbers.{in_range, value_of, kept_of}
use Rattle.numerals.specs.Reading.{or_zero, wholly, number_at, line_number}
use Rattle.std.proofs.Common.{Option, Some, None, Result, Ok, Err}
use Rattle.numerals.specs.declared.Read.{Read}
use Rattle.numerals.specs.declared.Numeral.{Numeral}
use Rattle.numerals.specs.Writing.{signed_decimal}
use Rattle.ports.specs.Overwriting.{overwrite}
use Rattle.codes.specs.Stops.{memory_end, input_end, output_short}
use Rattle.ports.specs.Input.{line_at, after_line, byte_taken, number_taken, Passed, passed, string_taken}
use Rattle.ports.specs.Output.{low_byte, string_of, ends_in_zero, text_put, byte_put, number_put, string_put}
use Rattle.ports.specs.declared.Taken.{Taken}
use Rattle.ports.proofs.Overwrites.{overwrite-length}
use Rattle.ports.proofs.Searches.{up_to-ends, up_to-take}

-- ---- elements below a bound, as a slice's elements are known

abbrev pub Below : ℕ → List ℕ → Type 0
Below k xs = (i : ℕ) → get_or xs i 0 < k

module _ (k : ℕ) where
  drop-below : (n : ℕ) (xs : List ℕ) → Below k xs → Below k (drop n xs)
  drop-below n xs h i = rw (get_or-drop n xs i 0) (h (n + i))

  take_below : (n : ℕ) (xs : List ℕ) → Below k xs → Below k (take n xs)
  take_below zero xs h i = omega (arith, h i)
  take_below (suc n) [] h i = h i
  take_below (suc n) (x ∷ xs) h zero = h zero
  take_below (suc n) (x ∷ xs) h (suc i) = take_below n xs (λ j. h (suc j)) i

  append_below : (xs ys : List ℕ) → Below k xs → Below k ys → Below k (xs ++ ys)
  append_below [] ys g h i = h i
  append_below (x ∷ xs) ys g h zero = g zero
  append_below (x ∷ xs) ys g h (suc i) = append_below xs ys (λ j. g (suc j)) h i

  pub overwrite-below : (xs : List ℕ) (at : ℕ) (ys : List ℕ) → Below k xs → Below k ys → Below k (overwrite xs at ys)
  unfolding overwrite
  overwrite-below xs at ys g h =
      append_below (take at xs) (ys ++ drop (at + length ys) xs) (take_below at xs g)
      (append_below ys (drop (at + length ys) xs) h (drop-below (at + length ys) xs g))

  pub line-below : (input : List ℕ) (at : ℕ) → Below k input → Below k (line_at input at)
  line-below input at h = subst (Below k) (up_to-take LF (drop at input)) (take_below (length (line_at input at)) (drop at input) (drop-below at input h))

  zero-below : 0 < k → Below k (0 ∷ [])
  zero-below h zero = h
  zero-below h (suc i) = h

-- ---- "kept modulo 65536": the number of a line is a cell

cell_below : (z : ℤ) → or_zero (cond (in_range z) (Some (of_z w16 z)) None) < 65536
cell_below (pos n) =
    elim (dec_le n 65535) [
      | yes l ↦ rw (le-leb n 65535 l) (omega arith)
      | no l ↦ rw (lt-leb n 65535 (omega arith)) (omega arith)
    ]
cell_below (negsuc n) =
    elim (dec_le n 32767) [
      | yes l ↦ rw (le-leb n 32767 l) (omega arith)
      | no l ↦ rw (lt-leb n 32767 (omega arith)) (omega arith)
    ]

line_number_cell : (s : List ℕ) → line_number s < 65536
unfolding line_number kept_of
line_number_cell s = go (number_at s 0)
  where
    pick : (b : Bool) {x : ℕ} → x < 65536 → cond b x 0 < 65536
    pick true h = h
    pick false h = omega arith

    go : (r : Option (Read Numeral)) → wholly (length s) r < 65536
    go (Some r) = pick (eqb r.next.at (length s)) (cell_below (value_of r.value))
    go None = omega arith

-- ---- rows

-- what an answer keeps: the row's length; where it moved to; after a refusal the row itself, and which stop it is
pub record Keeps (lent : List ℕ) (place stop : ℕ → Type 0) (its : Passed) : Type 0 where
  pub same_length : length its.row ≡ length lent
  pub moves : {p : ℕ} → its.moved ≡ Ok p → place p
  pub refuses : {k : ℕ} → its.moved ≡ Err k → (its.row ≡ lent) × stop k

module _ (lent : List ℕ) (place stop : ℕ → Type 0) where
  keeps_to : (p : ℕ) (row : List ℕ) → length row ≡ length lent → place p → Keeps lent place stop (passed (Ok p) row)
  keeps_to p row l h =
      record {
        same_length = l;
        moves = λ {p = q} e. let z : p ≡ q = cc in subst place z h;
        refuses = λ {k} e. let z : ◌≡◌ {A = ℕ} 0 1 = cc in absurd (omega arith);
      }

  keeps-short : (k : ℕ) → stop k → Keeps lent place stop (passed (Err k) lent)
  keeps-short k h =
      record {
        same_length = refl;
        moves = λ {p = q} e. let z : ◌≡◌ {A = ℕ} 0 1 = cc in absurd (omega arith);
        refuses = λ {k = j} e. (refl, (let z : k ≡ j = cc in subst stop z h));
      }

  keeps-cond : (b : Bool) (x y : Passed) → (b ≡ true → Keeps lent place stop x) → (b ≡ false → Keeps lent place stop y) → Keeps lent place stop (cond b x y)
  keeps-cond true x y f g = f refl
  keeps-cond false x y f g = g refl

-- an output's position moves on within it, an input's past what was taken
abbrev pub Within : ℕ → List ℕ → ℕ → Type 0
Within at out p = (at ≤ p) × (p ≤ length out)

abbrev pub Past : ℕ → List ℕ → ℕ → Type 0
Past at input p = (at < p) × (p ≤ length input)

-- which stops there are
abbrev pub Only : ℕ → ℕ → Type 0
Only a k = k ≡ a

abbrev pub Either : ℕ → ℕ → ℕ → Type 0
Either a b k = (k ≡ a) ⊎ (k ≡ b)

module _ (out : List ℕ) (at : ℕ) where
  text-keeps : (stop : ℕ → Type 0) → stop output_short → (text : List ℕ) → Keeps out (Within at out) stop (text_put out at text)
  unfolding text_put
  text-keeps stop h text =
      keeps-cond out (Within at out) stop (leb (at + length text) (length out)) _ _
      (λ e. let l : at + length text ≤ length out = leb-true _ _ e in
      keeps_to out (Within at out) stop _ _ (overwrite-length out at text l) (omega arith))
      (λ e. keeps-short out (Within at out) stop output_short h)

  pub WRCHAR-keeps : (x : ℕ) → Keeps out (Within at out) (Only output_short) (byte_put out at x)
  unfolding byte_put
  WRCHAR-keeps x = text-keeps (Only output_short) refl (low_byte x ∷ [])

  pub WRINT-keeps : (x : ℕ) → Keeps out (Within at out) (Only output_short) (number_put out at x)
  unfolding number_put
  WRINT-keeps x = text-keeps (Only output_short) refl (signed_decimal x)

  pub WRSTR-keeps : (m : List ℕ) (from : ℕ) → Keeps out (Within at out) (Either memory_end output_short) (string_put out at m from)
  unfolding string_put
  WRSTR-keeps m from =
      keeps-cond out (Within at out) (Either memory_end output_short) (ends_in_zero (drop from m)) _ _
      (λ e. text-keeps (Either memory_end output_short) (inr refl) (map low_byte (string_of (drop from m))))
      (λ e. keeps-short out (Within at out) (Either memory_end output_short) memory_end (inl refl))

module _ (input : List ℕ) (at : ℕ) where
  line-past : at < length input → Past at input (after_line input at)
  unfolding after_line
  line-past h = go (ltb (at + length (line_at input at)) (length input)) refl
    where
      go : (b : Bool) → ltb (at + length (line_at input at)) (length input) ≡ b
          → Past at input (cond b (at + length (line_at input at) + 1) (at + length (line_at input at)))
      go true e = let l : at + length (line_at input at) < length input = ltb-true _ _ e in omega arith
      go false e =
          let l : length input ≤ at + length (line_at input at) = ltb-false _ _ e in
          omega (arith, up_to-ends LF input at (omega arith))

  pub INSTR-keeps : (m : List ℕ) (to : ℕ) → Keeps m (Past at input) (Either memory_end input_end) (string_taken m to input at)
  unfolding string_taken
  INSTR-keeps m to =
      keeps-cond m (Past at input) (Either memory_end input_end) (ltb at (length input)) _ _
      (λ here. keeps-cond m (Past at input) (Either memory_end input_end) (leb (to + length (line_at input at) + 1) (length m)) _ _
      (λ e. let l : to + length (line_at input at) + 1 ≤ length m = leb-true _ _ e in
      keeps_to m (Past at input) (Either memory_end input_end) _ _
      (overwrite-length m to (line_at input at ++ (0 ∷ [])) (simp length-append (omega arith)))
      (line-past (ltb-true _ _ here)))
      (λ e. keeps-short m (Past at input) (Either memory_end input_end) memory_end (inl refl)))
      (λ e. keeps-short m (Past at input) (Either memory_end input_end) input_end (inr refl))

  -- "INSTR adds a 0 cell": the cells stay cells
  pub INSTR-below : (k : ℕ) (m : List ℕ) (to : ℕ) → Below k m → Below k input → Below k (string_taken m to input at).row
  unfolding string_taken
  INSTR-below k m to g h = go (ltb at (length input)) (leb (to + length (line_at input at) + 1) (length m))
    where
      go : (a b : Bool) → Below k
          (cond a (cond b (passed (Ok (after_line input at)) (overwrite m to (line_at input at ++ (0 ∷ [])))) (passed (Err memory_end) m))
          (passed (Err input_end) m)).row
      go true true = overwrite-below k m to (line_at input at ++ (0 ∷ [])) g (append_below k (line_at input at) (0 ∷ []) (line-below k input at h) (zero-below k (omega (arith, g 0))))
      go true false = g
      go false b = g

-- ---- values

-- what a value taken keeps: its position moves past what was taken, and it is a cell
pub record Takes (input : List ℕ) (at : ℕ) (its : Result Taken ℕ) : Type 0 where
  pub moves : {t : Taken} → its ≡ Ok t → Past at input t.after × (t.value < 65536)
  pub refuses : {k : ℕ} → its ≡ Err k → k ≡ input_end

module _ (input : List ℕ) (at : ℕ) where
  takes-cond : (t : Taken) → (at < length input → Past at input t.after × (t.value < 65536)) → Takes input at (cond (ltb at (length input)) (Ok t) (Err input_end))
  takes-cond t h = go (ltb at (length input)) (λ e. h (ltb-true _ _ e))
    where
      go : (b : Bool) → (b ≡ true → Past at input t.after × (t.value < 65536)) → Takes input at (cond b (Ok t) (Err input_end))
      go true g =
          record {
            moves = λ {t = u} e. let f : t ≡ u = cc in subst (λ (v : Taken). Past at input v.after × (v.value < 65536)) f (g refl);
            refuses = λ e. let z : ◌≡◌ {A = ℕ} 0 1 = cc in absurd (omega arith);
          }
      go false g =
          record {
            moves = λ e. let z : ◌≡◌ {A = ℕ} 0 1 = cc in absurd (omega arith);
            refuses = λ e. cc;
          }

  pub INCHAR-takes : Below 256 input → Takes input at (byte_taken input at)
  unfolding byte_taken
  INCHAR-takes h = takes-cond (record { value = get_or input at 0; after = at + 1 }) (λ l. omega (arith, h at))

  pub ININT-takes : Takes input at (number_taken input at)
  unfolding number_taken
  ININT-takes = takes-cond (record { value = line_number (line_at input at); after = after_line input at }) (λ l. (line-past input at l, line_number_cell (line_at input at)))
