-- Strings: how many characters they have, and that these are the reader's.
use Prim.Native.Nat.{ℕ, ◌+◌, ◌≤◌, ◌<◌}
use mathlib.Core.List.{List, [], ◌∷◌}
use mathlib.Core.Path.{◌≡◌, refl, ap, subst}
use native.Mathlib.Omega.{arith}
use lib.Ieee.Bits.{is_true}
use lib.ListN.{length, drop}
use Rattle.numerals.specs.declared.Cursor.{Cursor}
use Rattle.tokens.specs.Strings.{is_plain, Characters, closed, plain, newline}
use Rattle.tokens.specs.Reading.{character_at}
use Rattle.tokens.specs.declared.Character.TheVariants.{Stands}
use Rattle.tokens.proofs.Quoted.{plain_is, Inside, character_means, ReadAt, characters-read}
use Rattle.items.specs.Reading.{characters}

-- the reader gives the rule's characters
pub characters_of : {l cs rest : List ℕ} → Characters l cs rest → characters l ≡ cs
unfolding characters
characters_of closed = refl
characters_of (plain {b} {cs = cs} t r) =
    let p = plain_is b (is_true (is_plain b) t) in
    rw (p.quote, p.backslash-not) (ap (λ (ds : List ℕ). b ∷ ds) (characters_of r))
characters_of (newline r) = ap (λ (ds : List ℕ). 10 ∷ ds) (characters_of r)

-- each takes a byte at least, and so does the closing quote
pub characters_fit : {l cs rest : List ℕ} → Characters l cs rest → length cs + 1 + length rest ≤ length l
characters_fit closed = omega arith
characters_fit (plain t r) = omega (arith, characters_fit r)
characters_fit (newline r) = omega (arith, characters_fit r)

-- a character takes a byte at least
pub character_moves : (s : List ℕ) (i : ℕ) {b : ℕ} {c : Cursor} → character_at s i ≡ Stands b c → (i < c.at) × (c.at ≤ length s)
character_moves s i {b} {c} e = let t : Inside s i (Stands b c) = subst (Inside s i) e (character_means s i) in (t.0, t.1)

-- ---- the loop that counts

-- at `i`, after n characters, the rest of the string is left
abbrev pub Left : List ℕ → ℕ → ℕ → ℕ → Type 0
Left s from i n =
    (cs rest : List ℕ) → Characters (drop from s) cs rest → (ds : List ℕ) × Characters (drop i s) ds rest × (length cs ≡ n + length ds)

pub count-start : (s : List ℕ) (from : ℕ) → Left s from from 0
count-start s from cs rest r = (cs, r, omega arith)

module _ (s : List ℕ) (from i n : ℕ) (left : Left s from i n) where
  pub count_on : {b : ℕ} {c : Cursor} → character_at s i ≡ Stands b c → Left s from c.at (n + 1)
  count_on {b} {c} e cs rest r = let h = left cs rest r in go h.0 h.2 (characters-read s i h.1 refl)
    where
      go : (ds : List ℕ) → length cs ≡ n + length ds → ReadAt s i ds rest
          → (es : List ℕ) × Characters (drop c.at s) es rest × (length cs ≡ n + 1 + length es)
      go [] q t = let z : ◌≡◌ {A = ℕ} 0 1 = cc t.0 in absurd (omega arith)
      go (d ∷ ds) q t =
          let p : t.0 ≡ c = cc t.1 in
          (ds, subst (λ (x : Cursor). Characters (drop x.at s) ds rest) p t.2, omega arith)

  -- where no character stands, none is left
  pub count-end : ((b : ℕ) (c : Cursor) → character_at s i ≡ Stands b c → ⊥) → (cs rest : List ℕ) → Characters (drop from s) cs rest → n ≡ length cs
  count-end none cs rest r = let h = left cs rest r in go h.0 h.2 (characters-read s i h.1 refl)
    where
      go : (ds : List ℕ) → length cs ≡ n + length ds → ReadAt s i ds rest → n ≡ length cs
      go [] q t = omega arith
      go (d ∷ ds) q t = absurd (none d t.0 t.1)
