-- Laws of what is told of a refusal: its reasons, and texts put one behind the other.
use mathlib.Core.Path.{◌≡◌, refl, ap, subst, ◌∙◌}
use mathlib.Core.List.{List, [], ◌∷◌, ◌++◌, append_assoc}
use Prim.Native.Nat.{ℕ, zero, suc, ◌+◌, ◌≤◌, ◌<◌}
use native.Mathlib.Decide.{dec_le}
use native.Mathlib.Omega.{arith}
use borrow.Author.Tests.{le-leb, lt-leb}
use lib.ListN.{length, get_or, get_or-eq_default, length-append}
use Rattle.numerals.specs.Bytes.{bytes, LF}
use Rattle.numerals.specs.Writing.{decimal}
use Rattle.numerals.proofs.Filling.{length-decimal}
use Rattle.ports.specs.Input.{Passed}
use Rattle.ports.specs.Output.{text_put}
use Rattle.ports.proofs.Outcomes.{text-put}
use Rattle.texts.specs.Lines.{text_of}
use Rattle.texts.specs.Inner.Wrote.{Wrote}
use Rattle.texts.proofs.Rooms.{wrote_on, wrote_as, wrote_length, wrote_none, overwrite-front}
use Rattle.desk.specs.Putting.{place_after, PutSo}
use Rattle.desk.specs.Refusals.{refusal_text, reasons, no_reason, reason_of, longest_path, name_told, sentence_text, AtHead}

-- ---- reasons

-- n is none of 1 to k, as the last arm of such a `match` knows it
abbrev pub NoneOf : ℕ → ℕ → Type 0
NoneOf zero n = Unit {0}
NoneOf (suc k) n = NoneOf k n × (n ≡ suc k → ⊥)

-- nor, from 6 on, one of the next j: 5 has no arm
abbrev pub NoneAfter5 : ℕ → ℕ → Type 0
NoneAfter5 zero n = NoneOf 4 n
NoneAfter5 (suc j) n = NoneAfter5 j n × (n ≡ 6 + j → ⊥)

none_of : (k n : ℕ) → NoneOf k n → 0 < n → k < n
none_of zero n p h = h
none_of (suc k) n p h = let l : k < n = none_of k n p.0 h in let d : n ≡ suc k → ⊥ = p.1 in omega arith

none_after_5 : (j n : ℕ) → NoneAfter5 j n → 5 < n → 5 + j < n
none_after_5 zero n p h = omega arith
none_after_5 (suc j) n p h = let l : 5 + j < n = none_after_5 j n p.0 h in let d : n ≡ 6 + j → ⊥ = p.1 in omega arith

first-four : (j n : ℕ) → NoneAfter5 j n → NoneOf 4 n
first-four zero n p = p
first-four (suc j) n p = first-four j n p.0

pub past-reasons : (n : ℕ) → 16 < n → reason_of n ≡ no_reason
unfolding reason_of reasons
past-reasons zero h = refl
past-reasons (suc n) h = get_or-eq_default reasons no_reason {n = n} (omega arith)

-- "for a source 5 goes" (02, K4)
pub five : (n : ℕ) → n ≡ 5 → reason_of n ≡ no_reason
unfolding reason_of reasons
five n e = rw e

pub no-reason : (n : ℕ) → NoneAfter5 11 n → reason_of n ≡ no_reason
unfolding reason_of
no-reason zero p = refl
no-reason (suc n) p =
    let l : 4 < suc n = none_of 4 (suc n) (first-four 11 (suc n) p) (omega arith) in
    elim (dec_le (suc n) 5) [
      | yes h ↦ five (suc n) (omega arith)
      | no h ↦ past-reasons (suc n) (none_after_5 11 (suc n) p (omega arith))
    ]

-- no text of a list is longer than 60 bytes
abbrev Short : List (List ℕ) → Type 0
Short [] = Unit {0}
Short (x ∷ xs) = (length x ≤ 60) × Short xs

short_at : (xs : List (List ℕ)) (n : ℕ) → Short xs → length (get_or xs n no_reason) ≤ 60
short_at [] n s = omega arith
short_at (x ∷ xs) zero s = s.0
short_at (x ∷ xs) (suc n) s = short_at xs n s.1

pub reason_length : (n : ℕ) → length (reason_of n) ≤ 60
unfolding reason_of reasons
reason_length zero = omega arith
reason_length (suc n) = short_at reasons n (search arith)

-- ---- texts behind each other

module _ (room : List ℕ) (at : ℕ) (text : List ℕ) {after : List ℕ} {next : ℕ} where
  -- a text that fits stands where it was put
  pub put_wrote : at + length text ≤ length room → PutSo at (text_put room at text) after next → Wrote room at text after next
  put_wrote h p =
      let e = text-put room at text (le-leb (at + length text) (length room) h) in
      (p.0 ∙ ap (λ (q : Passed). place_after at q.moved) e, p.1 ∙ ap (λ (q : Passed). q.row) e)

pub wrote_head : (room text : List ℕ) {after : List ℕ} {next : ℕ} → Wrote room 0 text after next → AtHead text room after next
wrote_head room text w = (omega (arith, w.0), w.1 ∙ overwrite-front room text)

-- a text and a decimal: no more than its length, and ten digits
pub field_length : (text : List ℕ) (n : ℕ) → length (text ++ decimal n) ≤ length text + 10
field_length text n = omega (arith, length-append text (decimal n), length-decimal n)

-- a text put behind another, where both have room
pub put_on : (room front back : List ℕ) {mid after : List ℕ} {at next : ℕ} → length front + length back ≤ length room → Wrote room 0 front mid at
    → PutSo at (text_put mid at back) after next
    → Wrote room 0 (front ++ back) after next
put_on room front back {mid} {after} {at} h w p =
    let long : length mid ≡ length room = wrote_length room 0 front (omega arith) w in
    wrote_on room 0 front back (omega arith) w (put_wrote mid at back (omega (arith, w.0)) p)

-- ---- the file's name

module _ (room path : List ℕ) where
  pub name-long : longest_path < length path → Wrote room 0 (name_told path) room 0 × (0 ≤ 4096)
  name-long h = rw (lt-leb (length path) longest_path h) (wrote_none room 0, omega arith)

  pub name-put : {after : List ℕ} {next : ℕ} → length path ≤ longest_path → 4096 ≤ length room → PutSo 0 (text_put room 0 path) after next
      → Wrote room 0 (name_told path) after next × (next ≤ 4096)
  name-put h l p =
      let w = put_wrote room 0 path (omega arith) p in
      rw (le-leb (length path) longest_path h) (w, omega (arith, w.0))

-- ---- the lines and the sentence, piece behind piece

module _ (room : List ℕ) (refusal : ℕ) {n line k column : ℕ} {r1 r2 r3 r4 : List ℕ} {a b c d : ℕ} (h : 53 ≤ length room) (is : n ≡ line)
    (at : k ≡ column) where
  pub lines-told : Wrote room 0 (bytes "refused=" ++ decimal refusal) r1 a → Wrote r1 a (bytes "\nline=" ++ decimal n) r2 b
      → Wrote r2 b (bytes "\ncolumn=" ++ decimal k) r3 c
      → PutSo c (text_put r3 c (LF ∷ [])) r4 d
      → AtHead (refusal_text refusal line column) room r4 d
  unfolding text_of
  lines-told u v w p =
      let first = bytes "refused=" ++ decimal refusal in
      let second = bytes "\nline=" ++ decimal n in
      let third = bytes "\ncolumn=" ++ decimal k in
      let two = first ++ second in
      let l2 : length two ≤ 34 =
      omega (arith, length-append first second, field_length (bytes "refused=") refusal, field_length (bytes "\nline=") n) in
      let l3 : length (two ++ third) ≤ 52 = omega (arith, l2, length-append two third, field_length (bytes "\ncolumn=") k) in
      let u2 = wrote_on room 0 first second (omega arith) u v in
      let u3 = wrote_on room 0 two third (omega arith) u2 w in
      let all = put_on room (two ++ third) (LF ∷ []) (omega (arith, l3)) u3 p in
      let told = wrote_as room 0 (two ++ third ++ (LF ∷ [])) (refusal_text refusal n k)
      (append_assoc two third (LF ∷ []) ∙ append_assoc first second (third ++ (LF ∷ []))) all in
      subst (λ (l : ℕ). AtHead (refusal_text refusal l column) room r4 d) is
      (subst (λ (l : ℕ). AtHead (refusal_text refusal n l) room r4 d) at (wrote_head room (refusal_text refusal n k) told))

module _ (room path : List ℕ) (refusal : ℕ) {n line k column : ℕ} {r1 r2 r3 r4 r5 r6 r7 : List ℕ} {a b c d e f g : ℕ} (h : 4201 ≤ length room)
    (is : n ≡ line) (at : k ≡ column) where
  pub sentence_told : Wrote room 0 (name_told path) r1 a × (a ≤ 4096) → Wrote r1 a (bytes ":" ++ decimal n) r2 b
      → Wrote r2 b (bytes ":" ++ decimal k) r3 c
      → Wrote r3 c (bytes ": refused " ++ decimal refusal) r4 d
      → PutSo d (text_put r4 d (bytes ": ")) r5 e
      → PutSo e (text_put r5 e (reason_of refusal)) r6 f
      → PutSo f (text_put r6 f (LF ∷ [])) r7 g
      → AtHead (sentence_text path refusal line column) room r7 g
  unfolding text_of
  sentence_told w0 w1 w2 w3 p4 p5 p6 =
      let one = name_told path ++ (bytes ":" ++ decimal n) in
      let two = one ++ (bytes ":" ++ decimal k) in
      let three = two ++ (bytes ": refused " ++ decimal refusal) in
      let four = three ++ bytes ": " in
      let five = four ++ reason_of refusal in
      let l1 : length one ≤ 4107 = omega (arith, w0.0.0, w0.1, length-append (name_told path) (bytes ":" ++ decimal n), field_length (bytes ":") n) in
      let l2 : length two ≤ 4118 = omega (arith, l1, length-append one (bytes ":" ++ decimal k), field_length (bytes ":") k) in
      let l3 : length three ≤ 4138 =
      omega (arith, l2, length-append two (bytes ": refused " ++ decimal refusal), field_length (bytes ": refused ") refusal) in
      let l4 : length four ≤ 4140 = omega (arith, l3, length-append three (bytes ": ")) in
      let l5 : length five ≤ 4200 = omega (arith, l4, length-append four (reason_of refusal), reason_length refusal) in
      let u1 = wrote_on room 0 (name_told path) (bytes ":" ++ decimal n) (omega arith) w0.0 w1 in
      let u2 = wrote_on room 0 one (bytes ":" ++ decimal k) (omega arith) u1 w2 in
      let u3 = wrote_on room 0 two (bytes ": refused " ++ decimal refusal) (omega arith) u2 w3 in
      let u4 = put_on room three (bytes ": ") (omega (arith, l3)) u3 p4 in
      let u5 = put_on room four (reason_of refusal) (omega (arith, l4, reason_length refusal)) u4 p5 in
      let u6 = put_on room five (LF ∷ []) (omega (arith, l5)) u5 p6 in
      subst (λ (l : ℕ). AtHead (sentence_text path refusal l column) room r7 g) is
      (subst (λ (l : ℕ). AtHead (sentence_text path refusal n l) room r7 g) at (wrote_head room (five ++ (LF ∷ [])) u6))
