-- Strings: what stands at a place inside one, where it closes, and that its characters are determined.
use Prim.Native.Nat.{ℕ, ◌+◌, ◌-◌, ◌≤◌, ◌<◌}
use Prim.Native.Char.{code}
use mathlib.Core.Bool.{Bool, true, false, false≢true, cond, not, ◌&&◌}
use mathlib.Core.List.{List, [], ◌∷◌}
use mathlib.Core.Path.{◌≡◌, refl, sym, ap, subst, ◌∙◌}
use native.Mathlib.Nat.{add-zero}
use native.Mathlib.Numerals.{one-add}
use native.Mathlib.Omega.{arith}
use lib.Dec.{eqb}
use lib.Ieee.Bits.{is_true}
use lib.ListN.{length, get_or, drop}
use lib.Seq.{get_or-drop, drop-drop}
use borrow.Author.Tests.{ne_eqb, eqb-true, eqb-false}
use Rattle.numerals.proofs.Radixes.{within, begins}
use Rattle.numerals.specs.declared.Cursor.{Cursor}
use Rattle.tokens.specs.Bytes.{is_quote, is_printable}
use Rattle.tokens.specs.Strings.{backslash, is_plain, Characters, closed, plain, newline}
use Rattle.tokens.specs.Reading.{Closing, after, never, further, closing, escaped, character_at, string_token}
use Rattle.tokens.specs.Rows.{token}
use Rattle.tokens.specs.declared.Character.{Character}
use Rattle.tokens.specs.declared.Character.TheVariants.{Stands, Closed, Broken}
use Rattle.tokens.specs.declared.Kind.TheVariants.{Text, Stray}
use Rattle.tokens.proofs.Classes.{inside}

-- a byte that stands for itself
pub record Plain (b : ℕ) : Type 0 where
  pub quote : is_quote b ≡ false
  pub backslash-not : eqb b backslash ≡ false
  pub printable : is_printable b ≡ true

pub plain_is : (b : ℕ) → is_plain b ≡ true → Plain b
plain_is b e = go (is_printable b) (is_quote b) (eqb b backslash) refl refl refl e
  where
    go : (p q k : Bool) → is_printable b ≡ p → is_quote b ≡ q → eqb b backslash ≡ k → (p && (not q && not k)) ≡ true → Plain b
    go true false false p q k e = record { quote = q; backslash-not = k; printable = p }
    go true false true p q k e = absurd (false≢true e)
    go true true k' p q k e = absurd (false≢true e)
    go false q' k' p q k e = absurd (false≢true e)

-- ---- where a string closes

close-plain : (b : ℕ) (s : List ℕ) → is_plain b ≡ true → closing (b ∷ s) ≡ further 1 (closing s)
unfolding closing
close-plain b s e = let p = plain_is b e in rw (e, p.quote, p.backslash-not)

pub further-further : (m n : ℕ) (c : Closing) → further m (further n c) ≡ further (m + n) c
further-further m n (after k) = ap after (omega arith)
further-further m n never = refl

pub further-none : (n : ℕ) (c : Closing) → c ≡ further (n - n) c
further-none n (after k) = ap after (omega arith)
further-none n never = refl

-- where the characters close, and what follows
pub record ClosesAt (l rest : List ℕ) : Type 0 where
  pub bytes : ℕ
  pub closes : closing l ≡ after bytes
  pub lengths : length l ≡ bytes + length rest
  pub follows : drop bytes l ≡ rest
  pub some : 0 < bytes

pub characters-close : {l cs rest : List ℕ} → Characters l cs rest → ClosesAt l rest
unfolding closing
characters-close (closed {rest}) = record { bytes = 1; closes = refl; lengths = omega arith; follows = refl; some = omega arith }
characters-close (plain {b} {s} t r) =
    let h = characters-close r in
    record {
      bytes = 1 + h.bytes;
      closes = close-plain b s (is_true (is_plain b) t) ∙ rw h.closes;
      lengths = omega (arith, h.lengths);
      follows = rw one-add h.follows;
      some = omega arith;
    }
characters-close (newline r) =
    let h = characters-close r in
    record {
      bytes = 1 + (1 + h.bytes);
      closes = rw h.closes;
      lengths = omega (arith, h.lengths);
      follows = rw (one-add (1 + h.bytes), one-add h.bytes) h.follows;
      some = omega arith;
    }

pub characters-once : {l cs rest cs' rest' : List ℕ} → Characters l cs rest → Characters l cs' rest' → (cs ≡ cs') × (rest ≡ rest')
characters-once closed closed = (refl, refl)
characters-once closed (plain t q) = absurd t
characters-once (plain t r) closed = absurd t
characters-once (plain {b} t r) (plain t' q) = let h = characters-once r q in (ap (λ (cs : List ℕ). b ∷ cs) h.0, h.1)
characters-once (plain t r) (newline q) = absurd t
characters-once (newline r) (plain t q) = absurd t
characters-once (newline r) (newline q) = let h = characters-once r q in (ap (λ (cs : List ℕ). 10 ∷ cs) h.0, h.1)

-- what the reader of strings found
abbrev pub Closes : List ℕ → Closing → Type 0
Closes l (after n) = (cs : List ℕ) × Characters l cs (drop n l)
Closes l never = Unit

after-plain : (b : ℕ) (l : List ℕ) (c : Closing) → is_plain b ≡ true → Closes l c → Closes (b ∷ l) (further 1 c)
after-plain b l (after n) e h = (b ∷ h.0, rw one-add (plain {b = b} (rw e tt) h.1))
after-plain b l never e h = tt

after-newline : (l : List ℕ) (c : Closing) → Closes l c → Closes (backslash ∷ code "n" ∷ l) (further 1 (further 1 c))
after-newline l (after n) h = (10 ∷ h.0, rw (one-add (1 + n), one-add n) (newline h.1))
after-newline l never h = tt

mutual
  unfolding closing

  pub closing-sound : (l : List ℕ) → Closes l (closing l)
  closing-sound [] = tt
  closing-sound (b ∷ l) = go (is_quote b) (eqb b backslash) (is_plain b) refl refl refl (closing-sound l) (escaped-sound l)
    where
      go : (q k p : Bool) → is_quote b ≡ q → eqb b backslash ≡ k → is_plain b ≡ p → Closes l (closing l)
          → Closes (backslash ∷ l) (further 1 (escaped l))
          → Closes (b ∷ l) (cond q (after 1) (cond k (further 1 (escaped l)) (cond p (further 1 (closing l)) never)))
      go true k p q' k' p' h e = rw (eqb-true b 34 q') ([], closed)
      go false true p q' k' p' h e = rw (eqb-true b backslash k') e
      go false false true q' k' p' h e = after-plain b l (closing l) p' h
      go false false false q' k' p' h e = tt

  escaped-sound : (l : List ℕ) → Closes (backslash ∷ l) (further 1 (escaped l))
  escaped-sound [] = tt
  escaped-sound (b ∷ l) = go (eqb b (code "n")) refl (closing-sound l)
    where
      go : (n : Bool) → eqb b (code "n") ≡ n → Closes l (closing l)
          → Closes (backslash ∷ b ∷ l) (further 1 (cond n (further 1 (closing l)) never))
      go true e h = rw (eqb-true b 110 e) (after-newline l (closing l) h)
      go false e h = tt

-- a string that never closes has no characters
pub never-closes : {l : List ℕ} → closing l ≡ never → (cs rest : List ℕ) → Characters l cs rest → ⊥
never-closes e cs rest r = let h = characters-close r in let z : ◌≡◌ {A = ℕ} 0 1 = cc h.closes in omega arith

-- the bytes up to the closing quote are the text's
pub closes-within : (l : List ℕ) {n : ℕ} → closing l ≡ after n → n ≤ length l
closes-within l {n} e =
    let c : Closes l (after n) = subst (Closes l) e (closing-sound l) in
    let h = characters-close c.1 in
    let m : h.bytes ≡ n = cc h.closes in
    omega (arith, h.lengths)

-- ---- what stands at a place

-- the byte at a place, and what follows it
pub byte_of : (s : List ℕ) (i : ℕ) {b : ℕ} {l : List ℕ} → drop i s ≡ b ∷ l → (get_or s i 0 ≡ b) × (drop (i + 1) s ≡ l)
byte_of s i e = (rw (e, add-zero) at (sym (get_or-drop i s 0 0)), sym (drop-drop 1 i s) ∙ ap (drop 1) e)

-- what a character read at a place tells of where the string closes
abbrev Tells : List ℕ → ℕ → Character → Type 0
Tells s i (Stands b c) =
    (i < c.at) × (c.at ≤ length s) × (closing (drop i s) ≡ further (c.at - i) (closing (drop c.at s)))
    × ((cs rest : List ℕ) → Characters (drop c.at s) cs rest → Characters (drop i s) (b ∷ cs) rest)
Tells s i (Closed c) = (c.at ≡ i + 1) × (i < length s) × (drop i s ≡ code "\"" ∷ drop c.at s)
Tells s i Broken = closing (drop i s) ≡ never

module _ (s : List ℕ) (i : ℕ) where
  at_plain : is_plain (get_or s i 0) ≡ true → Tells s i (Stands (get_or s i 0) (record { at = i + 1 }))
  at_plain e =
      let p = inside 32 126 (get_or s i 0) (plain_is (get_or s i 0) e).printable in
      let f = begins s i (get_or s i 0) (omega arith) refl in
      let n : i + 1 - i ≡ 1 = omega arith in (
        omega arith,
        omega (arith, within s i (get_or s i 0) (omega arith) refl),
        rw (n, f) (close-plain (get_or s i 0) (drop (i + 1) s) e),
        λ cs rest r. rw f (plain {b = get_or s i 0} (rw e tt) r),
      )

  at_newline : get_or s i 0 ≡ 92 → get_or s (i + 1) 0 ≡ 110 → Tells s i (Stands 10 (record { at = i + 2 }))
  unfolding closing
  at_newline e f =
      let n : i + 1 + 1 ≡ i + 2 = omega arith in
      let m : i + 2 - i ≡ 2 = omega arith in
      let g : drop i s ≡ 92 ∷ 110 ∷ drop (i + 2) s = begins s i 92 (omega arith) e ∙ rw (begins s (i + 1) 110 (omega arith) f, n) in (
        omega arith,
        omega (arith, within s (i + 1) 110 (omega arith) f),
        rw (m, g) (further-further 1 1 (closing (drop (i + 2) s))),
        λ cs rest r. rw g (newline r),
      )

  -- a backslash that begins no `\\n`
  at_backslash : get_or s i 0 ≡ 92 → (get_or s (i + 1) 0 ≡ 110 → ⊥) → closing (drop i s) ≡ never
  unfolding closing
  at_backslash e n = rw (begins s i 92 (omega arith) e) (go (drop (i + 1) s) refl)
    where
      go : (l : List ℕ) → drop (i + 1) s ≡ l → further 1 (escaped l) ≡ never
      go [] f = refl
      go (b ∷ l) f = rw (ne_eqb b 110 (λ g. n (rw (f, add-zero) at (sym (get_or-drop (i + 1) s 0 0)) ∙ g)))

  at_other : is_quote (get_or s i 0) ≡ false → eqb (get_or s i 0) backslash ≡ false → is_plain (get_or s i 0) ≡ false → closing (drop i s) ≡ never
  unfolding closing
  at_other q k p = go (drop i s) refl
    where
      go : (l : List ℕ) → drop i s ≡ l → closing l ≡ never
      go [] f = refl
      go (b ∷ l) f = let g : get_or s i 0 ≡ b = rw (f, add-zero) at (sym (get_or-drop i s 0 0)) in rw (rw g at p, rw g at q, rw g at k)

  tells : Tells s i (character_at s i)
  unfolding character_at
  tells =
      go (is_quote (get_or s i 0)) (eqb (get_or s i 0) backslash) (eqb (get_or s (i + 1) 0) (code "n")) (is_plain (get_or s i 0)) refl refl refl refl
    where
      go : (q k n p : Bool) → is_quote (get_or s i 0) ≡ q → eqb (get_or s i 0) backslash ≡ k → eqb (get_or s (i + 1) 0) (code "n") ≡ n
          → is_plain (get_or s i 0) ≡ p
          → Tells s i
          (cond q (Closed (record { at = i + 1 }))
          (cond k (cond n (Stands 10 (record { at = i + 2 })) Broken)
          (cond p (Stands (get_or s i 0) (record { at = i + 1 })) Broken)))
      go true k n p q' k' n' p' =
          let e = eqb-true (get_or s i 0) 34 q' in (refl, within s i 34 (omega arith) e, begins s i 34 (omega arith) e)
      go false true true p q' k' n' p' = at_newline (eqb-true (get_or s i 0) 92 k') (eqb-true (get_or s (i + 1) 0) 110 n')
      go false true false p q' k' n' p' = at_backslash (eqb-true (get_or s i 0) 92 k') (eqb-false (get_or s (i + 1) 0) 110 n')
      go false false n true q' k' n' p' = at_plain p'
      go false false n false q' k' n' p' = at_other q' k' p'

-- what a character read at a place says of the string's characters from there on
abbrev pub Inside : List ℕ → ℕ → Character → Type 0
Inside s i (Stands b c) =
    (i < c.at) × (c.at ≤ length s) × ((cs rest : List ℕ) → Characters (drop c.at s) cs rest → Characters (drop i s) (b ∷ cs) rest)
Inside s i (Closed c) = (c.at ≡ i + 1) × Characters (drop i s) [] (drop c.at s)
Inside s i Broken = (cs rest : List ℕ) → Characters (drop i s) cs rest → ⊥

inside_of : (s : List ℕ) (i : ℕ) (r : Character) → Tells s i r → Inside s i r
inside_of s i (Stands b c) t = (t.0, t.1, t.3)
inside_of s i (Closed c) t = (t.0, rw t.2 closed)
inside_of s i Broken t = never-closes t

pub character_means : (s : List ℕ) (i : ℕ) → Inside s i (character_at s i)
character_means s i = inside_of s i (character_at s i) (tells s i)

-- the character that a string's characters begin with is read at its place
abbrev pub ReadAt : List ℕ → ℕ → List ℕ → List ℕ → Type 0
ReadAt s i [] rest = (character_at s i ≡ Closed (record { at = i + 1 })) × (drop (i + 1) s ≡ rest)
ReadAt s i (b ∷ cs) rest = (c : Cursor) × (character_at s i ≡ Stands b c) × Characters (drop c.at s) cs rest

pub characters-read : (s : List ℕ) (i : ℕ) {l cs rest : List ℕ} → Characters l cs rest → drop i s ≡ l → ReadAt s i cs rest
unfolding character_at
characters-read s i (closed {rest}) e = let b = byte_of s i e in (rw b.0, b.1)
characters-read s i (plain {b} {s = l} {cs} {rest} t r) e =
    let f = byte_of s i e in
    let p = is_true (is_plain b) t in
    let q = plain_is b p in
    (record { at = i + 1 }, rw (f.0, p, q.quote, q.backslash-not), rw f.1 r)
characters-read s i (newline r) e =
    let f = byte_of s i e in
    let g = byte_of s (i + 1) f.1 in
    let n : i + 1 + 1 ≡ i + 2 = omega arith in
    (record { at = i + 2 }, rw (f.0, g.0), rw (← n, g.1) r)

-- ---- the loop over a string, from its opening quote on

module _ (s : List ℕ) (at i : ℕ) (h : at + 1 ≤ i) (e : closing (drop (at + 1) s) ≡ further (i - (at + 1)) (closing (drop i s))) where
  told : {r : Character} → character_at s i ≡ r → Tells s i r
  told k = subst (Tells s i) k (tells s i)

  pub string_on : {b : ℕ} {c : Cursor} → character_at s i ≡ Stands b c
      → (i < c.at) × (c.at ≤ length s) × (closing (drop (at + 1) s) ≡ further (c.at - (at + 1)) (closing (drop c.at s)))
  string_on {b} {c} k =
      let t : Tells s i (Stands b c) = told k in
      let n : i - (at + 1) + (c.at - i) ≡ c.at - (at + 1) = omega (arith, t.0) in
      (t.0, t.1, e ∙ ap (further (i - (at + 1))) t.2 ∙ further-further (i - (at + 1)) (c.at - i) (closing (drop c.at s)) ∙ rw n)

  pub string-closed : (d : Bool) {c : Cursor} → character_at s i ≡ Closed c
      → string_token (closing (drop (at + 1) s)) at d ≡ token Text at d c.at
  unfolding closing
  string-closed d {c} k =
      let t : Tells s i (Closed c) = told k in
      let n : at + 1 + (i - (at + 1) + 1) ≡ c.at = omega (arith, t.0) in
      rw (e, t.2, n)

  pub string-broken : (d : Bool) → character_at s i ≡ Broken → string_token (closing (drop (at + 1) s)) at d ≡ token Stray at d at
  string-broken d k = let n : closing (drop i s) ≡ never = told k in rw (e, n)
