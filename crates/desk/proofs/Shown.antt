-- Laws of the excerpt: a byte as it is shown, the part of a line, the caret's place, and both put into a room.
use mathlib.Core.Path.{◌≡◌, refl, sym, ap, subst, ◌∙◌}
use mathlib.Core.Bool.{false}
use mathlib.Core.List.{List, [], ◌∷◌, ◌++◌, map, append_assoc}
use Prim.Native.Nat.{ℕ, zero, suc, ◌+◌, ◌-◌, ◌≤◌, ◌<◌}
use native.Mathlib.Decide.{dec_le}
use native.Mathlib.Omega.{arith}
use borrow.Author.Tests.{ne_eqb, le-leb, lt-leb}
use lib.ListN.{length, get_or, replicate, take, drop, length-drop, length-map, length-replicate, replicate-append-replicate, get_or-map}
use lib.Seq.{take_all, take_at}
use Rattle.numerals.specs.Bytes.{bytes, LF}
use Rattle.texts.specs.Lines.{text_of}
use Rattle.texts.specs.Inner.Wrote.{Wrote}
use Rattle.texts.proofs.Rooms.{wrote_on, wrote_as, wrote_lines}
use Rattle.desk.specs.Excerpts.{shown_byte, most_shown, shown_from, shown_part, indented, blanks, caret_under, is_column_of, excerpt_text}
use Rattle.desk.specs.Refusals.{AtHead}
use Rattle.desk.proofs.Told.{wrote_head}

-- ---- a byte

module _ (b : ℕ) where
  pub shown_tab : b ≡ 9 → 32 ≡ shown_byte b
  unfolding shown_byte
  shown_tab e = rw e

  pub shown-low : (b ≡ 9 → ⊥) → b < 32 → 63 ≡ shown_byte b
  unfolding shown_byte
  shown-low d h = rw (lt-leb 32 b h, ne_eqb b 9 d)

  pub shown_high : (b ≡ 9 → ⊥) → 126 < b → 63 ≡ shown_byte b
  unfolding shown_byte
  shown_high d h = rw (le-leb 32 b (omega arith), lt-leb b 126 h, ne_eqb b 9 d)

  pub shown-same : 32 ≤ b → b ≤ 126 → b ≡ shown_byte b
  unfolding shown_byte
  shown-same h l = rw (le-leb 32 b h, le-leb b 126 l)

-- an element that is there, by any default
at_any : (l : List ℕ) (k d e : ℕ) → k < length l → get_or l k d ≡ get_or l k e
at_any [] k d e h = omega arith
at_any (x ∷ l) zero d e h = refl
at_any (x ∷ l) (suc k) d e h = at_any l k d e (omega arith)

pub shown_at : (part : List ℕ) (k : ℕ) → k < length part → shown_byte (get_or part k 0) ≡ get_or (map shown_byte part) k 0
shown_at part k h =
    sym (get_or-map shown_byte part k 0) ∙ at_any (map shown_byte part) k (shown_byte 0) 0 (omega (arith, length-map part shown_byte))

-- ---- the part

module _ (size column : ℕ) where
  pub from-short : size ≤ 80 → 0 ≡ shown_from size column
  unfolding shown_from
  from-short h = rw (le-leb size 80 h)

  pub from-long : 80 < size → column - 73 ≡ shown_from size column
  unfolding shown_from
  from-long h = rw (lt-leb size 80 h)

  -- it starts in the line and not behind the column, and the caret stands under it or directly behind
  pub from-within : 1 ≤ column → column ≤ size + 1
      → (shown_from size column ≤ size) × (shown_from size column ≤ column - 1) × (column - 1 - shown_from size column ≤ 80)
  from-within h l =
      elim (dec_le size 80) [
        | yes s ↦ let e = from-short s in (omega (arith, e), omega (arith, e), omega (arith, e))
        | no s ↦ let e = from-long (omega arith) in (omega (arith, e), omega (arith, e), omega (arith, e))
      ]

-- a part that ends after 80 bytes, or sooner with its line
pub part_taken : (line : List ℕ) (from end : ℕ)
    → (end ≤ length line) × (from ≤ end) × (end ≤ from + most_shown) × (end < from + most_shown → end ≡ length line)
    → take (end - from) (drop from line) ≡ take most_shown (drop from line)
part_taken line from end p =
    elim (dec_le (from + 80) end) [
      | yes l ↦ let e : end - from ≡ 80 = omega (arith, p.2) in ap (λ (n : ℕ). take n (drop from line)) e
      | no l ↦
          let e : end ≡ length line = p.3 (omega arith) in
          take_all (end - from) (drop from line) (omega (arith, e, length-drop from line))
          ∙ sym (take_all 80 (drop from line) (omega (arith, e, length-drop from line)))
    ]

-- ---- in a room

module _ (room part : List ℕ) {r1 r2 r3 : List ℕ} {a b c : ℕ} where
  pub part_put : length part ≤ most_shown → Wrote room 0 (bytes "    ") r1 a → Wrote r1 a (map shown_byte part) r2 b → Wrote r2 b (LF ∷ []) r3 c
      → Wrote room 0 (text_of (indented (map shown_byte part) ∷ [])) r3 c × (c ≤ 85)
  unfolding text_of
  part_put h u v w =
      let text = bytes "    " ++ map shown_byte part in
      let t = wrote_on room 0 (bytes "    ") (map shown_byte part) (omega arith) u v in
      (wrote_on room 0 text (LF ∷ []) (omega arith) t w, omega (arith, u.0, v.0, w.0, length-map part shown_byte))

-- the first of many blanks
pub blanks-taken : (n m : ℕ) → n ≤ m → take n (blanks m) ≡ blanks n
blanks-taken n m h =
    let e : n + (m - n) ≡ m = omega arith in
    rw (replicate-append-replicate {A = ℕ} n (m - n) 32, e) at (take_at {A = ℕ} (replicate n 32) (replicate (m - n) 32) n (length-replicate n 32))

pub blanks-length : (n m : ℕ) → n ≤ m → length (take n (blanks m)) ≡ n
blanks-length n m h = ap length (blanks-taken n m h) ∙ length-replicate {A = ℕ} n 32

module _ (room : List ℕ) (at n : ℕ) {r1 r2 r3 : List ℕ} {a b c : ℕ} where
  pub caret_put : at ≤ length room → Wrote room at (bytes "    ") r1 a → Wrote r1 a (blanks n) r2 b → Wrote r2 b (bytes "^\n") r3 c
      → Wrote room at (text_of (indented (caret_under n) ∷ [])) r3 c
  unfolding text_of
  caret_put h u v w =
      let t = wrote_on room at (bytes "    ") (blanks n) h u v in
      let all = wrote_on room at (bytes "    " ++ blanks n) (bytes "^\n") h t w in
      wrote_as room at (bytes "    " ++ blanks n ++ bytes "^\n") (text_of (indented (caret_under n) ∷ []))
      (ap (λ (r : List ℕ). bytes "    " ++ r) (sym (append_assoc (blanks n) (bytes "^") (LF ∷ []))))
      all

-- ---- the excerpt

module _ (room line : List ℕ) (column : ℕ) where
  none-shown : is_column_of line column ≡ false → AtHead (excerpt_text line column) room room 0
  unfolding excerpt_text
  none-shown e = rw e (refl, refl)

  pub nowhere-shown : column ≡ 0 → AtHead (excerpt_text line column) room room 0
  nowhere-shown e = none-shown (rw (lt-leb 1 column (omega arith)))

  pub outside-shown : 1 ≤ column → length line < column - 1 → AtHead (excerpt_text line column) room room 0
  outside-shown h l = none-shown (rw (le-leb 1 column h, lt-leb column (length line + 1) (omega arith)))

  -- both lines, by the place from which the line is shown
  unfoldable excerpt_from : ℕ → List ℕ
  excerpt_from from =
      text_of (indented (map shown_byte (take most_shown (drop from line))) ∷ indented (caret_under (column - 1 - from)) ∷ [])

  excerpt-from : 1 ≤ column → column ≤ length line + 1 → excerpt_from (shown_from (length line) column) ≡ excerpt_text line column
  unfolding excerpt_from excerpt_text shown_part
  excerpt-from h l = rw (le-leb 1 column h, le-leb column (length line + 1) l)

  lines-put : {r1 r2 : List ℕ} {a b : ℕ} (from : ℕ)
      → Wrote room 0 (text_of (indented (map shown_byte (take most_shown (drop from line))) ∷ [])) r1 a
      → Wrote r1 a (text_of (indented (caret_under (column - 1 - from)) ∷ [])) r2 b
      → AtHead (excerpt_from from) room r2 b
  unfolding excerpt_from
  lines-put from u v =
      let one = indented (map shown_byte (take most_shown (drop from line))) in
      let two = indented (caret_under (column - 1 - from)) in
      wrote_head room (text_of (one ∷ two ∷ [])) (wrote_lines room 0 (one ∷ []) (two ∷ []) (omega arith) u v)

  pub line-shown : {r1 r2 : List ℕ} {from end a b : ℕ} → 1 ≤ column → column ≤ length line + 1
      → from ≡ shown_from (length line) column
      → (end ≤ length line) × (from ≤ end) × (end ≤ from + most_shown) × (end < from + most_shown → end ≡ length line)
      → Wrote room 0 (text_of (indented (map shown_byte (take (end - from) (drop from line))) ∷ [])) r1 a × (a ≤ 85)
      → Wrote r1 a (text_of (indented (caret_under (column - 1 - from)) ∷ [])) r2 b
      → AtHead (excerpt_text line column) room r2 b
  line-shown {r2 = r2} {from = from} {end = end} {b = b} h l e p u v =
      subst (λ (t : List ℕ). AtHead t room r2 b) (ap excerpt_from e ∙ excerpt-from h l)
      (lines-put from (rw (part_taken line from end p) at u.0) v)

-- of the line by another name
pub shown_as : (room : List ℕ) (column : ℕ) {line same after : List ℕ} {next : ℕ} → line ≡ same → AtHead (excerpt_text line column) room after next
    → AtHead (excerpt_text same column) room after next
shown_as room column {after = after} {next = next} e p = subst (λ (l : List ℕ). AtHead (excerpt_text l column) room after next) e p
