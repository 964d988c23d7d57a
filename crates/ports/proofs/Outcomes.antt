-- One law for each way out of a function, over plain variables: what its promise then says.
use mathlib.Core.Path.{◌≡◌, refl, sym, ap, ◌∙◌}
use mathlib.Core.Bool.{true, false}
use mathlib.Core.List.{List, [], ◌∷◌, ◌++◌, map}
use Prim.Native.Nat.{ℕ, zero, suc, ◌+◌, ◌-◌, ◌≤◌, ◌<◌}
use native.Mathlib.Decide.{dec_le}
use native.Mathlib.Omega.{arith}
use borrow.Author.Tests.{lt-ltb, le-ltb, le-leb, lt-leb}
use lib.Dec.{leb}
use lib.ListN.{length, get_or, take, drop, length-drop, length-map}
use lib.Seq.{length-take-le, take_all}
use Rattle.numerals.specs.Reading.{line_number}
use Rattle.numerals.specs.Writing.{signed_decimal, written}
use Rattle.numerals.specs.declared.Written.{Written}
use Rattle.numerals.proofs.Filling.{written-text}
use Rattle.numerals.proofs.Top.{signed-length}
use Rattle.ports.specs.Overwriting.{overwrite}
use Rattle.ports.specs.Searching.{up_to}
use Rattle.codes.specs.Stops.{input_end, memory_end, output_short}
use Rattle.ports.specs.Input.{line_at, after_line, byte_taken, number_taken, passed, string_taken}
use Rattle.ports.specs.Output.{low_byte, string_of, text_put, string_put}
use Rattle.std.proofs.Common.{Ok, Err}
use Rattle.ports.proofs.Searches.{up_to_part, meets-within}

-- room from a place on, with no sum that could wrap
pub room_after : (size at n : ℕ) → at ≤ size → leb n (size - at) ≡ leb (at + n) size
room_after size at n h =
    elim (dec_le (at + n) size) [
      | yes l ↦ le-leb n (size - at) (omega arith) ∙ sym (le-leb (at + n) size l)
      | no l ↦ lt-leb n (size - at) (omega arith) ∙ sym (lt-leb (at + n) size (omega arith))
    ]

pub take-map : (f : ℕ → ℕ) (n : ℕ) (s : List ℕ) → take n (map f s) ≡ map f (take n s)
take-map f zero s = refl
take-map f (suc n) [] = refl
take-map f (suc n) (x ∷ s) = ap (λ (r : List ℕ). f x ∷ r) (take-map f n s)

-- a text
module _ (out : List ℕ) (at : ℕ) (text : List ℕ) where
  pub text-put : leb (at + length text) (length out) ≡ true → text_put out at text ≡ passed (Ok (at + length text)) (overwrite out at text)
  unfolding text_put
  text-put e = rw e

  pub text-short : leb (at + length text) (length out) ≡ false → text_put out at text ≡ passed (Err output_short) out
  unfolding text_put
  text-short e = rw e

-- WRINT: the places of a cell's decimal from its start on are its text
module _ {w : Written} (x : ℕ) (cell : x < 65536) (is : w ≡ written (signed_decimal x)) where
  pub places : (drop w.start w.bytes ≡ signed_decimal x) × (length w.bytes ≡ 11)
  places = rw is (written-text (signed_decimal x) (omega (arith, signed-length x cell)))

  pub places-start : w.start ≤ length w.bytes
  places-start = omega (arith, places.1, ap length places.0, length-drop w.start w.bytes, signed-length x cell)

  pub places-text : take (length w.bytes - w.start) (drop w.start w.bytes) ≡ signed_decimal x
  places-text =
      rw places.0 (take_all (length w.bytes - w.start) (signed_decimal x) (omega (arith, places.1, ap length places.0, length-drop w.start w.bytes)))

-- INCHAR, ININT
module _ (input : List ℕ) (at : ℕ) where
  pub byte-none : length input ≤ at → byte_taken input at ≡ Err input_end
  unfolding byte_taken
  byte-none h = rw (le-ltb _ _ h)

  pub byte-taken : at < length input → byte_taken input at ≡ Ok (record { value = get_or input at 0; after = at + 1 })
  unfolding byte_taken
  byte-taken h = rw (lt-ltb _ _ h)

  pub number-none : length input ≤ at → number_taken input at ≡ Err input_end
  unfolding number_taken
  number-none h = rw (le-ltb _ _ h)

  pub number-taken : at < length input → number_taken input at ≡ Ok (record { value = line_number (line_at input at); after = after_line input at })
  unfolding number_taken
  number-taken h = rw (lt-ltb _ _ h)

-- INSTR
pub string-none : (m : List ℕ) (to : ℕ) (input : List ℕ) (at : ℕ) → length input ≤ at → string_taken m to input at ≡ passed (Err input_end) m
unfolding string_taken
string-none m to input at h = rw (le-ltb _ _ h)

module _ (m : List ℕ) (to : ℕ) (input : List ℕ) (at : ℕ) (here : at < length input) where
  room_is : leb (to + length (line_at input at) + 1) (length m) ≡ leb (to + (length (line_at input at) + 1)) (length m)
  room_is = ap (λ (k : ℕ). leb k (length m)) (omega arith)

  pub string-taken : leb (to + (length (line_at input at) + 1)) (length m) ≡ true
      → string_taken m to input at ≡ passed (Ok (after_line input at)) (overwrite m to (line_at input at ++ (0 ∷ [])))
  unfolding string_taken
  string-taken e = rw (lt-ltb _ _ here, room_is, e)

  pub string-long : leb (to + (length (line_at input at) + 1)) (length m) ≡ false → string_taken m to input at ≡ passed (Err memory_end) m
  unfolding string_taken
  string-long e = rw (lt-ltb _ _ here, room_is, e)

-- WRSTR, where the cells before the first that is 0 end at `end`
module _ (out : List ℕ) (at : ℕ) (m : List ℕ) (from end : ℕ) (ends : end ≡ from + length (string_of (drop from m))) where
  pub string-unended : length m ≤ end → string_put out at m from ≡ passed (Err memory_end) out
  unfolding string_put
  string-unended h = rw (meets-within 0 (drop from m), le-ltb (length (up_to 0 (drop from m))) (length (drop from m)) (omega (arith, length-drop from m)))

  module _ (within : end < length m) where
    text_is : string_put out at m from ≡ text_put out at (map low_byte (take (end - from) (drop from m)))
    unfolding string_put
    text_is =
        let z : length (up_to 0 (drop from m)) < length (drop from m) = omega (arith, length-drop from m) in
        rw (up_to_part 0 m from end ends, meets-within 0 (drop from m), lt-ltb _ _ z)

    text-length : length (map low_byte (take (end - from) (drop from m))) ≡ end - from
    text-length =
        length-map (take (end - from) (drop from m)) low_byte ∙ length-take-le (end - from) (drop from m) (omega (arith, length-drop from m))

    pub string-put : leb (at + (end - from)) (length out) ≡ true
        → string_put out at m from ≡ passed (Ok (at + (end - from))) (overwrite out at (map low_byte (take (end - from) (drop from m))))
    unfolding text_put
    string-put e = rw (text_is, text-length, e)

    pub string-short : leb (at + (end - from)) (length out) ≡ false → string_put out at m from ≡ passed (Err output_short) out
    unfolding text_put
    string-short e = rw (text_is, text-length, e)
