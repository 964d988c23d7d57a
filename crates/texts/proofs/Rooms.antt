-- Writing one text after another into a room is writing both at once; and the places of a decimal are its text.
use mathlib.Core.Path.{◌≡◌, sym, ap, ◌∙◌}
use mathlib.Core.List.{List, [], ◌∷◌, ◌++◌, append_assoc}
use Prim.Native.Nat.{ℕ, ◌+◌, ◌-◌, ◌≤◌, ◌<◌}
use native.Mathlib.Nat.{add_assoc}
use native.Mathlib.Omega.{arith}
use lib.ListN.{length, set, take, drop, length-append}
use lib.Seq.{take_all, take_at, drop-drop, length-take-le}
use Rattle.numerals.specs.Writing.{decimal, signed_decimal, written}
use Rattle.numerals.specs.declared.Written.{Written}
use Rattle.numerals.proofs.Decimals.{signed-length}
use Rattle.numerals.proofs.Filling.{written-text, length-decimal}
use Rattle.ports.specs.Overwriting.{overwrite}
use Rattle.ports.proofs.Overwrites.{overwrite-none, overwrite-length, overwrite-more, overwrite-after}
use Rattle.texts.specs.Lines.{text_of}
use Rattle.texts.specs.Inner.Wrote.{Wrote}
use Rattle.texts.proofs.Texts.{text_append}

module _ (xs : List ℕ) (at : ℕ) (ys : List ℕ) where
  -- a text written behind another
  pub overwrite_on : (zs : List ℕ) → at ≤ length xs → overwrite (overwrite xs at ys) (at + length ys) zs ≡ overwrite xs at (ys ++ zs)
  unfolding overwrite
  overwrite_on zs h =
      let front : length (take at xs ++ ys) ≡ at + length ys = simp (length-append, length-take-le at xs h) in
      let before : take (at + length ys) (overwrite xs at ys) ≡ take at xs ++ ys =
      rw (← append_assoc (take at xs) ys) (take_at (take at xs ++ ys) _ _ front) in
      let after : drop (at + length ys + length zs) (overwrite xs at ys) ≡ drop (at + length (ys ++ zs)) xs =
      sym (drop-drop (length zs) (at + length ys) (overwrite xs at ys))
      ∙ ap (drop (length zs)) (overwrite-after xs at ys h)
      ∙ drop-drop (length zs) (at + length ys) xs
      ∙ ap (λ (n : ℕ). drop n xs) (add_assoc at (length ys) (length zs) ∙ ap (λ (n : ℕ). at + n) (sym (length-append ys zs))) in
      rw (before, after) (simp append_assoc)

  -- in two steps
  pub wrote_on : (zs : List ℕ) {mid after : List ℕ} {k next : ℕ} → at ≤ length xs → Wrote xs at ys mid k → Wrote mid k zs after next
      → Wrote xs at (ys ++ zs) after next
  wrote_on zs h w v =
      (omega (arith, length-append ys zs), v.1 ∙ rw (w.1, w.0) (overwrite_on zs h))

  -- and one byte more
  pub wrote_byte : (b : ℕ) {mid : List ℕ} {k : ℕ} → at + length ys < length xs → Wrote xs at ys mid k
      → Wrote xs at (ys ++ (b ∷ [])) (set mid k b) (k + 1)
  wrote_byte b h w =
      (omega (arith, length-append ys (b ∷ [])), rw (w.1, w.0) (overwrite-more xs at ys b h))

-- lines, and others behind them
pub wrote_lines : (xs : List ℕ) (at : ℕ) (a b : List (List ℕ)) {mid after : List ℕ} {k next : ℕ} → at ≤ length xs → Wrote xs at (text_of a) mid k
    → Wrote mid k (text_of b) after next → Wrote xs at (text_of (a ++ b)) after next
wrote_lines xs at a b h w v = rw (text_append a b) (wrote_on xs at (text_of a) (text_of b) h w v)

-- the same text by another name
pub wrote_as : (xs : List ℕ) (at : ℕ) (ys zs : List ℕ) {after : List ℕ} {next : ℕ} → ys ≡ zs → Wrote xs at ys after next → Wrote xs at zs after next
wrote_as xs at ys zs e w = (omega (arith, w.0, ap length e), w.1 ∙ ap (overwrite xs at) e)

-- a room keeps its length
pub wrote_length : (xs : List ℕ) (at : ℕ) (ys : List ℕ) {after : List ℕ} {next : ℕ} → at + length ys ≤ length xs → Wrote xs at ys after next
    → length after ≡ length xs
wrote_length xs at ys h w = ap length w.1 ∙ overwrite-length xs at ys h

-- nothing written
pub wrote_none : (xs : List ℕ) (at : ℕ) → Wrote xs at [] xs at
wrote_none xs at = (omega arith, sym (overwrite-none xs at))

-- at the head of a room
pub overwrite-front : (xs ys : List ℕ) → overwrite xs 0 ys ≡ ys ++ drop (length ys) xs
unfolding overwrite
overwrite-front xs ys = let e : 0 + length ys ≡ length ys = omega arith in ap (λ (n : ℕ). ys ++ drop n xs) e

-- the places of a short text, from its start on, are the text
module _ {w : Written} (body : List ℕ) (short : length body ≤ 11) (is : w ≡ written body) where
  text-places : (drop w.start w.bytes ≡ body) × (length w.bytes ≡ 11)
  text-places = rw is (written-text body short)

  text-start : (w.start ≤ 11) × (11 - w.start ≡ length body)
  unfolding written
  text-start = let e : w.start ≡ 11 - length body = ap (λ (v : Written). v.start) is in omega (arith, e, short)

  text-taken : take (length w.bytes - w.start) (drop w.start w.bytes) ≡ body
  text-taken = rw text-places.0 (take_all (length w.bytes - w.start) body (omega (arith, text-start.1, text-places.1)))

  module _ (xs : List ℕ) (at : ℕ) (text : List ℕ) {mid : List ℕ} {k : ℕ} (fits : at + length (text ++ body) ≤ length xs) (e : Wrote xs at text mid k) where
    -- there is room for it behind a text
    room_behind : k + length (take (length w.bytes - w.start) (drop w.start w.bytes)) ≤ length mid
    room_behind =
        let l = length-append text body in
        rw text-taken (omega (arith, e.0, wrote_length xs at text (omega arith) e))

    -- a text and this one behind it
    wrote_behind : {after : List ℕ} {next : ℕ} → Wrote mid k (take (length w.bytes - w.start) (drop w.start w.bytes)) after next
        → Wrote xs at (text ++ body) after next
    wrote_behind f = let l = length-append text body in wrote_on xs at text body (omega arith) e (rw text-taken at f)

-- the same of a decimal's places
module _ {w : Written} (n : ℕ) (is : w ≡ written (decimal n)) where
  short-decimal : length (decimal n) ≤ 11
  short-decimal = omega (arith, length-decimal n)

  pub places : (drop w.start w.bytes ≡ decimal n) × (length w.bytes ≡ 11)
  places = text-places (decimal n) short-decimal is

  pub places-start : (w.start ≤ 11) × (11 - w.start ≡ length (decimal n))
  places-start = text-start (decimal n) short-decimal is

  module _ (xs : List ℕ) (at : ℕ) (text : List ℕ) {mid : List ℕ} {k : ℕ} (fits : at + length (text ++ decimal n) ≤ length xs) (e : Wrote xs at text mid k) where
    pub room_for_decimal : k + length (take (length w.bytes - w.start) (drop w.start w.bytes)) ≤ length mid
    room_for_decimal = room_behind (decimal n) short-decimal is xs at text fits e

    -- a text and a decimal behind it
    pub wrote_field : {after : List ℕ} {next : ℕ} → Wrote mid k (take (length w.bytes - w.start) (drop w.start w.bytes)) after next
        → Wrote xs at (text ++ decimal n) after next
    wrote_field = wrote_behind (decimal n) short-decimal is xs at text fits e

-- and of a cell's signed decimal
module _ {w : Written} (x : ℕ) (cell : x < 65536) (is : w ≡ written (signed_decimal x)) where
  short-signed : length (signed_decimal x) ≤ 11
  short-signed = omega (arith, signed-length x cell)

  pub signed-places : (drop w.start w.bytes ≡ signed_decimal x) × (length w.bytes ≡ 11)
  signed-places = text-places (signed_decimal x) short-signed is

  pub signed-start : (w.start ≤ 11) × (11 - w.start ≡ length (signed_decimal x))
  signed-start = text-start (signed_decimal x) short-signed is

  module _ (xs : List ℕ) (at : ℕ) (text : List ℕ) {mid : List ℕ} {k : ℕ} (fits : at + length (text ++ signed_decimal x) ≤ length xs) (e : Wrote xs at text mid k) where
    pub room_for_signed : k + length (take (length w.bytes - w.start) (drop w.start w.bytes)) ≤ length mid
    room_for_signed = room_behind (signed_decimal x) short-signed is xs at text fits e

    pub wrote_signed : {after : List ℕ} {next : ℕ} → Wrote mid k (take (length w.bytes - w.start) (drop w.start w.bytes)) after next
        → Wrote xs at (text ++ signed_decimal x) after next
    wrote_signed = wrote_behind (signed_decimal x) short-signed is xs at text fits e
