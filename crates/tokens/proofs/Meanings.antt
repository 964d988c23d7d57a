-- What a token says of the line at its place: the token found there is what the rules give.
use Prim.Native.Nat.{ℕ, ◌+◌, ◌-◌, ◌<◌}
use Prim.Native.Char.{code}
use mathlib.Core.Bool.{Bool, true, false}
use mathlib.Core.List.{List, [], ◌∷◌}
use mathlib.Core.Logic.{◌⊎◌, inl, inr}
use mathlib.Core.Path.{◌≡◌, refl, sym, subst, ◌∙◌}
use native.Mathlib.Numerals.{add-one}
use native.Mathlib.Omega.{arith}
use lib.Dec.{eqb, T}
use lib.ListN.{length, get_or, take, drop, drop_of_length-le}
use lib.Seq.{drop-drop, drop-cons}
use Rattle.numerals.specs.Bytes.{is_digit}
use Rattle.numerals.specs.Numbers.{Unsigned, cut}
use Rattle.numerals.specs.Reading.{run, unsigned_at}
use Rattle.std.proofs.Common.{Option, Some, None}
use Rattle.numerals.specs.declared.Read.{Read}
use Rattle.numerals.specs.declared.Numeral.{Numeral}
use Rattle.numerals.specs.declared.Radix.{Radix}
use Rattle.numerals.proofs.Numbers.{unsigned_sound, unsigned_complete}
use Rattle.tokens.specs.Bytes.{is_blank, is_mark}
use Rattle.tokens.specs.Strings.{Characters}
use Rattle.tokens.specs.Words as W
use Rattle.tokens.specs.Rows.{Broken, byte, number, string}
use Rattle.tokens.specs.Reading.{blanks, Closing, after, never, closing, number_token, string_token, token_here, token_at}
use Rattle.tokens.specs.declared.Kind.{Kind}
use Rattle.tokens.specs.declared.Kind.TheVariants.{End, Stray, Word, Number, Text, Mark}
use Rattle.tokens.specs.declared.Token.{Token}
use Rattle.tokens.proofs.Blanks.{ends-blanks}
use Rattle.tokens.proofs.Here.{Outcome, outcome}
use Rattle.tokens.proofs.Here as H
use Rattle.tokens.proofs.Places.{here-stands}
use Rattle.tokens.proofs.Quoted.{Closes, closing-sound, never-closes}
use Rattle.tokens.proofs.Words.{word_stands}

-- what a token of a kind, from a place to its end, says of the line
abbrev pub Means : List ℕ → Kind → ℕ → ℕ → Type 0
Means s End at end = (drop at s ≡ []) ⊎ ((l : List ℕ) × (drop at s ≡ code ";" ∷ l))
Means s Stray at end = Broken (drop at s)
Means s Word at end = W.Word (drop at s) (take (end - at) (drop at s)) (drop end s)
Means s (Number v k) at end = (w : ℕ) × (v ≡ cut w) × Unsigned (drop at s) k w (drop end s)
Means s Text at end = (drop at s ≡ code "\"" ∷ drop (at + 1) s) × (cs : List ℕ) × Characters (drop (at + 1) s) cs (drop end s)
Means s (Mark b) at end = T (is_mark b) × (drop at s ≡ b ∷ drop end s)

split : (s : List ℕ) (at : ℕ) → at < length s → drop at s ≡ get_or s at 0 ∷ drop (at + 1) s
split s at l = drop-cons s at 0 l ∙ rw (add-one at)

module _ (s : List ℕ) (at : ℕ) (d : Bool) where
  number-means : (r : Option (Read Numeral)) → at < length s → is_digit (get_or s at 0) ≡ true → unsigned_at s at ≡ r
      → Means s (number_token r at d).kind at (number_token r at d).next.at
  number-means (Some r) l g e = let h = unsigned_sound s at e in (h.worth_is, h.magnitude_is, h.reads.1)
  number-means None l g e = rw (split s at l) (number {b = get_or s at 0} (rw g tt) (λ k v rest u. none k v rest (rw (split s at l) u)))
    where
      none : (k : Radix) (v : ℕ) (rest : List ℕ) → Unsigned (drop at s) k v rest → ⊥
      none k v rest u = let z : ◌≡◌ {A = ℕ} 0 1 = cc (unsigned_complete s at u) in omega arith

  string-means : (c : Closing) → at < length s → get_or s at 0 ≡ 34 → closing (drop (at + 1) s) ≡ c
      → Means s (string_token c at d).kind at (string_token c at d).next.at
  string-means (after n) l e q =
      let k : Closes (drop (at + 1) s) (after n) = subst (Closes (drop (at + 1) s)) q (closing-sound (drop (at + 1) s)) in
      (split s at l ∙ rw e, k.0, rw (drop-drop n (at + 1) s) at k.1)
  string-means never l e q = rw (split s at l, e) (string (never-closes q))

outcome-means : {s : List ℕ} {at : ℕ} {d : Bool} {t : Token} → Outcome s at d t → (at < length s → is_blank (get_or s at 0) ≡ false)
    → Means s t.kind at t.next.at
outcome-means {s} (H.past l) nb = inl (drop_of_length-le s l)
outcome-means {s} {at} {d} (H.number l g) nb = number-means s at d (unsigned_at s at) l g refl
outcome-means {s} {at} (H.word l g w) nb =
    let n : at + run 17 (drop at s) - at ≡ run 17 (drop at s) = omega arith in
    rw n (word_stands s at l w g)
outcome-means {s} {at} {d} (H.string l e) nb = string-means s at d (closing (drop (at + 1) s)) l e refl
outcome-means {s} {at} (H.comment l e) nb = inr (drop (at + 1) s, split s at l ∙ rw e)
outcome-means {s} {at} (H.mark l m) nb = (rw m tt, split s at l)
outcome-means {s} {at} (H.stray l n) nb = rw (split s at l) (byte {b = get_or s at 0} (rw (n (nb l)) tt))

pub here-means : (s : List ℕ) (at : ℕ) (d : Bool) → (at < length s → is_blank (get_or s at 0) ≡ false)
    → Means s (token_here s at d).kind at (token_here s at d).next.at
here-means s at d nb = outcome-means (outcome s at d) nb

-- what the first token from a place on says
pub token-means : (s : List ℕ) (from : ℕ) → Means s (token_at s from).kind (token_at s from).start (token_at s from).next.at
unfolding token_at
token-means s from =
    let n = blanks (drop from s) in
    let t = token_here s (from + n) (eqb n 0) in
    subst (λ (p : ℕ). Means s t.kind p t.next.at) (sym (here-stands s (from + n) (eqb n 0)).starts)
    (here-means s (from + n) (eqb n 0) (λ l. ends-blanks (drop from s) (drop-drop n from s ∙ drop-cons s (from + n) 0 l)))
