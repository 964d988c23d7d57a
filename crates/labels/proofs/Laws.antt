-- Laws of windows, of keys and chains of names, of `same` and of the words held.
use mathlib.Core.Path.{◌≡◌, refl, sym, ap, ap₂, subst, ◌∙◌}
use mathlib.Core.List.{List, [], ◌∷◌, ◌++◌}
use mathlib.Core.Bool.{true, false}
use Prim.Native.Nat.{ℕ, zero, suc, ◌+◌, ◌*◌, ◌/◌, ◌%◌, ◌-◌, ◌≤◌, ◌<◌}
use native.Mathlib.Numerals.{add-one}
use native.Mathlib.Omega.{arith}
use lib.Dec.{ltb}
use lib.ListN.{length, get_or, drop, take, length-append}
use lib.Seq.{get_or-take, get_or-drop, slice, slice_empty, slice-cons}
use borrow.Author.Tests.{eq-eqb, ne_eqb, lt-ltb, le-ltb}
use Rattle.values.specs.declared.Name.{Name}
use Rattle.names.specs.Names.{same}
use Rattle.isa.proofs.Tests.{and-false}
use Rattle.names.proofs.Same.{same_other_by}
use Rattle.sources.specs.Sources.{spelled}
use Rattle.labels.specs.Inner.Labels.{window, key_of, word_by, chains, chain_of, numbers_from, onward, held_at, listed, words}

pub length-window : (s : List ℕ) (a n : ℕ) → length (window s a n) ≡ n
unfolding window
length-window s a zero = refl
length-window s a (suc n) = ap suc (length-window s (a + 1) n)

-- a window of a part of a list is one of the list
pub window_part : (s : List ℕ) (f e a n : ℕ) → a + n ≤ e - f → window (take (e - f) (drop f s)) a n ≡ window s (f + a) n
unfolding window
window_part s f e a zero h = refl
window_part s f e a (suc n) h =
    let q : f + (a + 1) ≡ f + a + 1 = omega arith in
    ap₂ (λ (x : ℕ) (l : List ℕ). x ∷ l) (get_or-take (e - f) (drop f s) a 0 (omega arith) ∙ get_or-drop f s a 0)
    (window_part s f e (a + 1) n (omega arith) ∙ ap (λ (x : ℕ). window s x n) q)

-- a window within the list is a part of it, as a name is of its line
window-slice : (l : List ℕ) (n a : ℕ) → a + n ≤ length l → window l a n ≡ slice a (a + n) l
unfolding window
window-slice l zero a h = let e : a + 0 ≡ a = omega arith in sym (ap (λ (t : ℕ). slice a t l) e ∙ slice_empty a l)
window-slice l (suc n) a h =
    let e : a + suc n ≡ a + 1 + n = omega arith in
    let f : suc a ≡ a + 1 = omega arith in
    ap (λ (r : List ℕ). get_or l a 0 ∷ r) (window-slice l n (a + 1) (omega arith))
    ∙ ap₂ (λ (t u : ℕ). get_or l a 0 ∷ slice u t l) (sym e) (sym f)
    ∙ sym (slice-cons a (a + suc n) l 0 (omega arith) (omega arith))

pub spelled-window : (line : List ℕ) (n : Name) → n.start ≤ n.end → n.end ≤ length line
    → spelled line n ≡ window line n.start (n.end - n.start)
spelled-window line n h k =
    let e : n.start + (n.end - n.start) ≡ n.end = omega arith in
    sym (window-slice line (n.end - n.start) n.start (omega arith) ∙ ap (λ (t : ℕ). slice n.start t line) e)

pub window-cons : (s : List ℕ) (a i n : ℕ) → i < n → window s (a + i) (n - i) ≡ get_or s (a + i) 0 ∷ window s (a + (i + 1)) (n - (i + 1))
unfolding window
window-cons s a i n h =
    let e : n - i ≡ suc (n - (i + 1)) = omega arith in
    let q : a + i + 1 ≡ a + (i + 1) = omega arith in
    ap (λ (m : ℕ). window s (a + i) m) e ∙ ap (λ (x : ℕ). get_or s (a + i) 0 ∷ window s x (n - (i + 1))) q

-- ---- keys

parted : (m : ℕ) → m / 256 * 256 + m % 256 ≡ m
parted m = omega arith

-- the key of a word of no byte, and of one that has a first
pub key-none : (s : List ℕ) (a n : ℕ) → n ≡ 0 → 0 ≡ key_of (window s a n)
unfolding key_of window
key-none s a n e = rw e

pub key-some : (s : List ℕ) (a n : ℕ) → (n ≡ 0 → ⊥) → key_of (window s a n) ≡ (n - 1) * 256 + get_or s a 0 + 1
unfolding key_of window
key-some s a zero h = absurd (h refl)
key-some s a (suc n) h = let e = length-window s (a + 1) n in omega (arith, e)

-- the word by a key has that key
key_of_word : (s : List ℕ) (a k : ℕ) → key_of (word_by s a k) ≡ k
unfolding key_of word_by
key_of_word s a zero = refl
key_of_word s a (suc k) = ap (λ (n : ℕ). suc (n * 256 + k % 256)) (length-window s (a + 1) (k / 256)) ∙ ap suc (parted k)

-- a first byte and how many follow, out of their number
parts : (n b : ℕ) → b < 256 → ((n * 256 + b) % 256 ≡ b) × ((n * 256 + b) / 256 ≡ n)
parts n b h = (omega (arith, h), omega (arith, h))

-- bytes of a source are held as they are
pub word_held : (s : List ℕ) (a n : ℕ) → get_or s a 0 < 256 → word_by s a (key_of (window s a n)) ≡ window s a n
unfolding key_of word_by window
word_held s a zero h = refl
word_held s a (suc n) h = let q = parts n (get_or s a 0) h in rw (length-window s (a + 1) n, q.0, q.1)

pub key-small : (s : List ℕ) (a n : ℕ) → n ≤ 64 → get_or s a 0 < 256 → key_of (window s a n) < 65536
unfolding key_of window
key-small s a zero h k = omega arith
key-small s a (suc n) h k = let e = length-window s (a + 1) n in omega (arith, e, h, k)

-- a word with the key of another is that one if their other bytes are the same
pub key-same : (s t : List ℕ) (a b n k : ℕ) → k ≡ key_of (window t b n) → get_or t b 0 < 256
    → same (word_by s a k) (window t b n) ≡ same (window s (a + 1) (n - 1)) (window t (b + 1) (n - 1))
unfolding key_of word_by window
key-same s t a b zero k e h = rw e
key-same s t a b (suc n) k e h =
    let q = parts n (get_or t b 0) h in
    let z : suc n - 1 ≡ n = omega arith in
    rw (e, length-window t (b + 1) n, q.0, q.1, z, eq-eqb (get_or t b 0) (get_or t b 0) refl)

-- a word with another key is another
pub key-other : (s w : List ℕ) (a k : ℕ) → (k ≡ key_of w → ⊥) → false ≡ same (word_by s a k) w
key-other s w a k h = sym (same_other_by key_of (word_by s a k) w (λ q. h (sym (key_of_word s a k) ∙ q)))

-- ---- the same bytes

module _ (s t : List ℕ) (a b n : ℕ) where
  pub same_more : (i : ℕ) → i < n → get_or s (a + i) 0 ≡ get_or t (b + i) 0
      → same (window s (a + i) (n - i)) (window t (b + i) (n - i)) ≡ same (window s (a + (i + 1)) (n - (i + 1))) (window t (b + (i + 1)) (n - (i + 1)))
  same_more i h e = rw (window-cons s a i n h, window-cons t b i n h, eq-eqb (get_or s (a + i) 0) (get_or t (b + i) 0) e)

  pub same_stop : (i : ℕ) → i < n → (get_or s (a + i) 0 ≡ get_or t (b + i) 0 → ⊥) → same (window s (a + i) (n - i)) (window t (b + i) (n - i)) ≡ false
  same_stop i h e = rw (window-cons s a i n h, window-cons t b i n h, ne_eqb (get_or s (a + i) 0) (get_or t (b + i) 0) e)

  pub same_end : (i : ℕ) → n ≤ i → same (window s (a + i) (n - i)) (window t (b + i) (n - i)) ≡ true
  unfolding window
  same_end i h = let e : n - i ≡ 0 = omega arith in rw e

-- ---- chains of names

pub chain_small : (w : List ℕ) → chain_of w < chains
unfolding chain_of
chain_small [] = omega arith
chain_small (b ∷ w) = omega arith

-- the chain of no byte, and of one byte more in front
module _ (s : List ℕ) (a n i : ℕ) where
  pub chain_none : i ≡ n → 0 ≡ chain_of (window s (a + i) (n - i))
  unfolding chain_of window
  chain_none e = let q : n - i ≡ 0 = omega (arith, e) in rw q

  pub chain_more : 0 < i → i ≤ n
      → (37 * chain_of (window s (a + i) (n - i)) + get_or s (a + (i - 1)) 0) % chains ≡ chain_of (window s (a + (i - 1)) (n - (i - 1)))
  unfolding chain_of
  chain_more z h =
      let e : i ≡ i - 1 + 1 = omega (arith, z) in
      ap (λ (j : ℕ). (37 * chain_of (window s (a + j) (n - j)) + get_or s (a + (i - 1)) 0) % chains) e
      ∙ ap chain_of (sym (window-cons s a (i - 1) n (omega (arith, z, h))))

-- ---- the next label of a chain

module _ (ks : List ℕ) (c n : ℕ) where
  pub onward-none : (named : ℕ) → named ≡ 0 → 0 ≡ onward ks c n named
  unfolding onward
  onward-none named e = rw e

  pub onward-out : (named : ℕ) → n < named → 0 ≡ onward ks c n named
  unfolding onward
  onward-out zero h = refl
  onward-out (suc j) h = rw (le-ltb j n (omega (arith, h)))

  pub onward-other : (named : ℕ) → (get_or ks (numbers_from + (named - 1)) 0 ≡ c → ⊥) → 0 ≡ onward ks c n named
  unfolding onward
  onward-other zero h = refl
  onward-other (suc j) h =
      let q : suc j - 1 ≡ j = omega arith in
      let d = subst (λ (i : ℕ). get_or ks (numbers_from + i) 0 ≡ c → ⊥) q h in
      rw (ne_eqb (get_or ks (numbers_from + j) 0) c d, and-false (ltb j n))

  pub onward-here : (named : ℕ) → named ≤ n → get_or ks (numbers_from + (named - 1)) 0 ≡ c → named ≡ onward ks c n named
  unfolding onward
  onward-here zero h e = refl
  onward-here (suc j) h e =
      let q : suc j - 1 ≡ j = omega arith in
      let d = subst (λ (i : ℕ). get_or ks (numbers_from + i) 0 ≡ c) q e in
      rw (lt-ltb j n (omega (arith, h)), eq-eqb (get_or ks (numbers_from + j) 0) c d)

-- ---- the words held

pub length-listed : (f : ℕ → List ℕ) (n : ℕ) → length (listed f n) ≡ n
unfolding listed
length-listed f zero = refl
length-listed f (suc n) = length-append (listed f n) (f n ∷ []) ∙ add-one (length (listed f n)) ∙ ap suc (length-listed f n)

pub length-words : (s xs ls : List ℕ) (n : ℕ) → length (words s xs ls n) ≡ n
unfolding words
length-words s xs ls n = length-listed (held_at s xs ls n) n
