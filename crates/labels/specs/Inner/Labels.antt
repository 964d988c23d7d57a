-- The labels that are held, as words, and a word's place among them.
use Rattle.std.specs.Prelude.{ℕ, zero, suc, ◌+◌, ◌*◌, ◌/◌, ◌%◌, ◌≤◌, ◌<◌, Bool, false, cond, ◌&&◌, ◌||◌, List, [], ◌∷◌, ◌++◌, ◌≡◌, ltb, eqb, length, get_or}
use Rattle.codes.specs.Limits.{most_labels}
use Rattle.names.specs.Names.{same}
use Rattle.sources.specs.Placing.{Bound}

-- the n bytes from a place on
unfoldable pub window : List ℕ → ℕ → ℕ → List ℕ
window s a zero = []
window s a (suc n) = get_or s a 0 ∷ window s (a + 1) n

-- a line is the part of the source from a place on
abbrev pub Part : List ℕ → ℕ → List ℕ → Type 0
Part s from line = (a n : ℕ) → a + n ≤ length line → window line a n ≡ window s (from + a) n

-- ---- the words held

-- a word's length and first letter in one number; 0 for no byte
unfoldable pub key_of : List ℕ → ℕ
key_of [] = 0
key_of (b ∷ w) = suc (length w * 256 + b)

-- the word that has such a number: its first letter by the number, the others from the place on
unfoldable pub word_by : List ℕ → ℕ → ℕ → List ℕ
word_by s a zero = []
word_by s a (suc k) = k % 256 ∷ window s (a + 1) (k / 256)

-- ---- chains: a label is reached without passing those on other chains

abbrev pub chains : ℕ
chains = 2 * most_labels

-- the chain that a word is on, by all its bytes: any number of the word would do, and one that parts names wherever they differ is quick
unfoldable pub chain_of : List ℕ → ℕ
chain_of [] = 0
chain_of (b ∷ w) = (37 * chain_of w + b) % chains

-- behind the keys stand, for each label, its chain and the label before it there, then, for each chain, its last label. A label is named
-- by its number and 1; 0 names none.
abbrev pub numbers_from : ℕ
numbers_from = most_labels

abbrev pub links_from : ℕ
links_from = 2 * most_labels

abbrev pub lasts_from : ℕ
lasts_from = 3 * most_labels

abbrev pub key_cells : ℕ
key_cells = 3 * most_labels + chains

-- the label that is named, if it is one of the first n and on this chain; else none
unfoldable pub onward : List ℕ → ℕ → ℕ → ℕ → ℕ
onward ks c n zero = 0
onward ks c n (suc j) = cond (ltb j n && eqb (get_or ks (numbers_from + j) 0) c) (suc j) 0

-- whether a chain, from the label that is named on, leads to the j-th; it goes down, so that as many steps as there are labels will do
unfoldable pub leads : List ℕ → ℕ → ℕ → ℕ → ℕ → Bool
leads ks c j zero named = false
leads ks c j (suc steps) zero = false
leads ks c j (suc steps) (suc i) = eqb i j || leads ks c j steps (onward ks c i (get_or ks (links_from + i) 0))

-- the same from the last of n labels
abbrev pub leads_to : List ℕ → ℕ → ℕ → ℕ → Bool
leads_to ks n c j = leads ks c j n (onward ks c n (get_or ks (lasts_from + c) 0))

-- no word of a source: 256 is no byte
abbrev pub no_word : List ℕ
no_word = 256 ∷ []

-- the j-th of n words. One that its chain does not lead to stands for none: so a look-up down one chain is right whatever a row holds, and
-- nobody has to say that chains are in order.
abbrev pub held_at : List ℕ → List ℕ → List ℕ → ℕ → ℕ → List ℕ
held_at s xs ks n j =
    cond (leads_to ks n (chain_of (word_by s (get_or xs j 0) (get_or ks j 0))) j) (word_by s (get_or xs j 0) (get_or ks j 0)) no_word

-- the first n values of a function
unfoldable pub listed : (ℕ → List ℕ) → ℕ → List (List ℕ)
listed f zero = []
listed f (suc n) = listed f n ++ (f n ∷ [])

-- n words, by their places and keys, where their chains lead to them
unfoldable pub words : List ℕ → List ℕ → List ℕ → ℕ → List (List ℕ)
words s xs ks n = listed (held_at s xs ks n) n

-- the rows hold one word more, which stands at a place of whatever source it is
abbrev pub TakesWord : List ℕ → ℕ → ℕ → ℕ → List ℕ → List ℕ → List ℕ → List ℕ → Type 0
TakesWord w place size n xs ks xs' ks' = (s : List ℕ) → w ≡ window s place size → words s xs' ks' (n + 1) ≡ words s xs ks n ++ (w ∷ [])

-- how many labels come before the word's; all of them if it is none of them
unfoldable pub labels_before : List ℕ → List (List ℕ) → ℕ
labels_before w [] = 0
labels_before w (x ∷ xs) = cond (same x w) 0 (suc (labels_before w xs))

-- names with their values
unfoldable pub zipped : List (List ℕ) → List ℕ → List Bound
zipped [] vs = []
zipped (w ∷ ws) [] = []
zipped (w ∷ ws) (v ∷ vs) = record { name = w; value = v } ∷ zipped ws vs

-- the first n labels that the rows hold, with their values
abbrev pub labels_in : List ℕ → List ℕ → List ℕ → List ℕ → ℕ → List Bound
labels_in s starts keys values n = zipped (words s starts keys n) values

-- ---- the rows

-- they have room for every label: "labels at most 512"
pub record Rows (starts keys values : List ℕ) : Type 0 where
  pub starts-long : length starts ≡ most_labels
  pub keys_long : length keys ≡ key_cells
  pub values_long : length values ≡ most_labels

-- they reach as far as n labels
pub record Reach (n : ℕ) (starts keys values : List ℕ) : Type 0 where
  pub starts_reach : n ≤ length starts
  pub keys_reach : n ≤ length keys
  pub values_reach : n ≤ length values

-- a place below this is so small that no sum of two wraps
abbrev pub farthest : ℕ
farthest = 100000

-- a number that a cell of a row can hold
abbrev pub InCell : ℕ → Type 0
InCell n = n < 65536
