-- The readers find exactly the rule's numbers, and a text has one number at most at a place.
-- The part on digits is said once, over the radix; a radix brings its prefix (`radix-is`, `first-ranks`) and its base (Radixes.antt).
use Prim.Native.Nat.{ℕ, ◌+◌, ◌-◌, ◌≤◌, ◌<◌}
use mathlib.Core.Bool.{Bool, true, false, cond, ◌&&◌, and-false}
use mathlib.Core.List.{List, [], ◌∷◌, ◌++◌}
use mathlib.Core.Logic.{◌↔◌}
use mathlib.Core.Path.{◌≡◌, refl, sym, ap, ap₂, subst, ◌∙◌}
use native.Mathlib.Nat.{add-zero}
use native.Mathlib.Omega.{arith}
use lib.Dec.{ltb, eqb, T, ltb→lt, nltb→le}
use lib.Ieee.Fits.{and_l, and_r}
use lib.ListN.{length, get_or, take, drop, length-append, length-drop, take-append-drop}
use lib.Seq.{drop-drop, get_or-drop, take-append_seam, drop-append_seam, length-take-le}
use borrow.Author.Tests.{ne_eqb, eqb-true, eqb-false}
use Rattle.numerals.specs.Bytes.{rank}
use Rattle.numerals.specs.Digits.{all_below, Digits, worth, ends_word}
use Rattle.numerals.specs.Numbers.{base, prefix, Unsigned, Number, plain, minus, cut}
use Rattle.numerals.specs.Reading.{run, digits_at, radix_at, unsigned_at, number_at}
use Rattle.numerals.specs.declared.Cursor.{Cursor}
use Rattle.numerals.specs.declared.Numeral.{Numeral}
use Rattle.numerals.specs.declared.Radix.{Radix}
use Rattle.numerals.specs.declared.Radix.TheVariants.{Decimal, Hexadecimal}
use Rattle.std.proofs.Common.{Option, Some, None}
use Rattle.numerals.specs.Reading.{upto}
use Rattle.numerals.specs.declared.Read.{Read}
use Rattle.numerals.proofs.SameReads.{same-value, same-next}
use Rattle.numerals.proofs.Runs.{run_le, run-all, run_none, run_of}
use Rattle.numerals.proofs.Radixes.{base-small, begins, prefix-stands}
use Rattle.numerals.proofs.Readers.{digits-found, unsigned_is, number-minus, number-plain}

-- a numeral worth v, cut
abbrev pub numeral : Bool → Radix → ℕ → Numeral
numeral below k v = record { negative = below; radix = k; magnitude = cut v }

abbrev pub cursor : ℕ → Cursor
cursor at = record { at = at }

-- in a text, from a place on, something stands by a rule for texts: a numeral, up to a cursor after it
pub record Stands (Rule : Bool → Radix → ℕ → List ℕ → Type 0) (s : List ℕ) (at : ℕ) (n : Numeral) (c : Cursor) : Type 0 where
  pub worth_is : ℕ
  pub reads : Rule n.negative n.radix worth_is (drop c.at s)
  pub magnitude_is : n.magnitude ≡ cut worth_is
  pub moved : at < c.at
  pub within : c.at ≤ length s

-- the rule of unsigned numbers, as a rule of numbers
abbrev pub SignLess : List ℕ → Bool → Radix → ℕ → List ℕ → Type 0
SignLess text below k v rest = (below ≡ false) × Unsigned text k v rest

abbrev pub UnsignedAt : List ℕ → ℕ → Numeral → Cursor → Type 0
UnsignedAt s at n c = Stands (SignLess (drop at s)) s at n c

abbrev pub NumberAt : List ℕ → ℕ → Numeral → Cursor → Type 0
NumberAt s at n c = Stands (Number (drop at s)) s at n c

-- ---- digits, over any radix

module _ (below : Bool) (k : Radix) (s : List ℕ) (from : ℕ) where
  pub digits-complete : (ds rest : List ℕ) → drop from s ≡ ds ++ rest → Digits (base k) ds → T (ends_word rest)
      → digits_at below k s from ≡ Some (upto (numeral below k (worth (base k) ds)) (cursor (from + length ds)))
  digits-complete ds rest e d t =
      let r : run (base k) (drop from s) ≡ length ds = rw e (run_of (base k) ds rest (omega (arith, base-small k)) d.all t) in
      let z : drop (from + length ds) s ≡ rest = sym (drop-drop (length ds) from s) ∙ rw e (drop-append_seam ds rest) in
      let n : from + length ds - from ≡ length ds = omega arith in
      digits-found below k s from refl (ap (λ (m : ℕ). from + m) (sym r)) (omega (arith, d.some))
      (rw z (omega (arith, run_none 17 rest (omega arith) t)))
      (rw (n, e, take-append_seam ds rest))

  -- what the reader found: digits, what they are worth, and where they end
  pub record DigitsRead (n : Numeral) (c : Cursor) : Type 0 where
    pub digits : List ℕ
    pub split : drop from s ≡ digits ++ drop (from + length digits) s
    pub are-digits : Digits (base k) digits
    pub ends : T (ends_word (drop (from + length digits) s))
    pub numeral_is : n ≡ numeral below k (worth (base k) digits)
    pub cursor_is : c ≡ cursor (from + length digits)

  pub digits-sound : {n : Numeral} {c : Cursor} → digits_at below k s from ≡ Some (upto n c) → DigitsRead n c
  unfolding digits_at
  digits-sound {n} {c} e = go (ltb 0 m && ends_word (drop (from + m) s)) refl e
    where
      m : ℕ
      m = run (base k) (drop from s)

      l : length (take m (drop from s)) ≡ m
      l = length-take-le m (drop from s) (run_le (base k) (drop from s))

      go : (b : Bool) → (ltb 0 m && ends_word (drop (from + m) s)) ≡ b
          → cond b (Some (upto (numeral below k (worth (base k) (take m (drop from s)))) (cursor (from + m)))) None ≡ Some (upto n c) → DigitsRead n c
      go true t f =
          let b : T (ltb 0 m && ends_word (drop (from + m) s)) = rw t tt in
          record {
            digits = take m (drop from s);
            split = rw l (rw (← drop-drop m from s) (sym (take-append-drop m (drop from s))));
            are-digits = record { some = rw l (ltb→lt 0 m (and_l (ltb 0 m) (ends_word (drop (from + m) s)) b)); all = run-all (base k) (drop from s) };
            ends = rw l (and_r (ltb 0 m) (ends_word (drop (from + m) s)) b);
            numeral_is = sym (same-value f);
            cursor_is = rw l (sym (same-next f));
          }
      go false t f = let z : ◌≡◌ {A = ℕ} 0 1 = cc in absurd (omega arith)

-- ---- what a rule's number begins with

-- the byte after a decimal number's first is no letter, so that no prefix stands there
no_letter : (x : ℕ) → 10 ≤ rank x → rank x < 17 → (ds rest : List ℕ) → Digits 10 ds → T (ends_word rest) → get_or (ds ++ rest) 1 0 ≡ x → ⊥
unfolding rank
no_letter x l h [] rest d t e = omega (arith, d.some)
no_letter x l h (a ∷ []) [] d t e = let z : rank 0 ≡ rank x = ap rank e in omega arith
no_letter x l h (a ∷ []) (b ∷ rest) d t e = omega (arith, ap rank e, nltb→le (rank b) 17 t)
no_letter x l h (a ∷ b ∷ ds) rest d t e =
    omega (arith, ap rank e, ltb→lt (rank b) 10 (and_l (ltb (rank b) 10) (all_below 10 ds) (and_r (ltb (rank a) 10) (all_below 10 (b ∷ ds)) d.all)))

-- the radix found at a place depends on the text from there on
radix-drop : (s : List ℕ) (at : ℕ) → radix_at s at ≡ radix_at (drop at s) 0
unfolding radix_at
radix-drop s at = rw (get_or-drop at s 0 0, get_or-drop at s 1 0, add-zero at)

-- the radix of an unsigned number is the one found at its place
radix_is : (k : Radix) {text rest : List ℕ} {v : ℕ} → Unsigned text k v rest → radix_at text 0 ≡ k
unfolding radix_at rank
radix_is Decimal {rest = rest} u =
    let x = no_letter 120 (omega arith) (omega arith) u.digits rest u.are-digits u.ends in
    rw u.split (simp (ne_eqb (get_or (u.digits ++ rest) 1 0) 120 x, and-false))
radix_is Hexadecimal u = rw u.split

first-digit : (radix : ℕ) (ds rest : List ℕ) → Digits radix ds → rank (get_or (ds ++ rest) 0 0) < radix
first-digit radix [] rest d = absurd (omega (arith, d.some))
first-digit radix (a ∷ ds) rest d = ltb→lt (rank a) radix (and_l (ltb (rank a) radix) (all_below radix ds) d.all)

-- an unsigned number begins with a decimal digit
first_ranks : (k : Radix) {text rest : List ℕ} {v : ℕ} → Unsigned text k v rest → rank (get_or text 0 0) < 10
unfolding rank
first_ranks Decimal {rest = rest} u = rw u.split (first-digit 10 u.digits rest u.are-digits)
first_ranks Hexadecimal u = rw u.split (omega arith)

-- so no `-` stands there
no_minus : (k : Radix) {text rest : List ℕ} {v : ℕ} → Unsigned text k v rest → get_or text 0 0 ≡ 45 → ⊥
unfolding rank
no_minus k u e = omega (arith, first_ranks k u, ap rank e)

-- ---- places

-- a text that splits where something stands ends its rest at its own end
rest_at : (s : List ℕ) (at : ℕ) (read rest : List ℕ) → drop at s ≡ read ++ rest → 0 < length read
    → (at + length read ≡ length s - length rest) × (at < length s)
rest_at s at read rest e h = omega (arith, length-drop at s, simp length-append at (ap length e))

-- ---- unsigned numbers

-- the digits of an unsigned number, at their place
digits-place : {k : Radix} {v : ℕ} {rest : List ℕ} (s : List ℕ) (at : ℕ) (u : Unsigned (drop at s) k v rest)
    → drop (at + length (prefix k)) s ≡ u.digits ++ rest
digits-place {k} {rest = rest} s at u =
    sym (drop-drop (length (prefix k)) at s) ∙ rw u.split (drop-append_seam (prefix k) (u.digits ++ rest))

-- a number whose digits stand from a place on is found, up to its rest
found_from : (below : Bool) (k : Radix) {v : ℕ} (s : List ℕ) (from : ℕ) (ds rest : List ℕ) → drop from s ≡ ds ++ rest
    → Digits (base k) ds → T (ends_word rest) → v ≡ worth (base k) ds
    → digits_at below k s from ≡ Some (upto (numeral below k v) (cursor (length s - length rest)))
found_from below k s from ds rest e d t w =
    let p = rest_at s from ds rest e d.some in
    digits-complete below k s from ds rest e d t ∙ ap₂ (λ (m p : ℕ). (Some (upto (numeral below k m) (cursor p)))) (sym w) p.0

pub unsigned_complete : {k : Radix} {v : ℕ} {rest : List ℕ} (s : List ℕ) (at : ℕ) → Unsigned (drop at s) k v rest
    → unsigned_at s at ≡ Some (upto (numeral false k v) (cursor (length s - length rest)))
unsigned_complete {k} {rest = rest} s at u =
    unsigned_is s at (radix-drop s at ∙ radix_is k u)
    ∙ found_from false k s (at + length (prefix k)) u.digits rest (digits-place s at u) u.are-digits u.ends u.worth_is

-- what was found of digits stands, by whichever rule has them
stands_from : (Rule : Bool → Radix → ℕ → List ℕ → Type 0) (below : Bool) (k : Radix) (s : List ℕ) (at from : ℕ) {n : Numeral} {c : Cursor}
    → at ≤ from → (d : DigitsRead below k s from n c)
    → Rule below k (worth (base k) d.digits) (drop (from + length d.digits) s) → Stands Rule s at n c
stands_from Rule below k s at from h d r =
    let p = rest_at s from d.digits (drop (from + length d.digits) s) d.split d.are-digits.some in
    rw (d.numeral_is, d.cursor_is)
    (record { worth_is = worth (base k) d.digits; reads = r; magnitude_is = refl; moved = omega (arith, d.are-digits.some); within = omega arith })

pub unsigned_sound : (s : List ℕ) (at : ℕ) {n : Numeral} {c : Cursor} → unsigned_at s at ≡ Some (upto n c) → UnsignedAt s at n c
unsigned_sound s at e =
    let k = radix_at s at in
    let from = at + length (prefix k) in
    let d = digits-sound false k s from (sym (unsigned_is s at refl) ∙ e) in
    stands_from (SignLess (drop at s)) false k s at from (omega arith) d (
      refl,
      record {
        digits = d.digits;
        split = prefix-stands k s at refl ∙ ap (λ (l : List ℕ). prefix k ++ l) d.split;
        are-digits = d.are-digits;
        ends = d.ends;
        worth_is = refl;
      },
    )

-- ---- numbers

first_of : (s : List ℕ) (at : ℕ) {text : List ℕ} → drop at s ≡ text → get_or s at 0 ≡ get_or text 0 0
first_of s at e = rw (e, add-zero at) at (sym (get_or-drop at s 0 0))

number_complete_at : {below : Bool} {k : Radix} {v : ℕ} {text rest : List ℕ} (s : List ℕ) (at : ℕ)
    → Number text below k v rest → drop at s ≡ text → number_at s at ≡ Some (upto (numeral below k v) (cursor (length s - length rest)))
number_complete_at s at (plain {k = k} {v = v} {rest = rest} u) e =
    number-plain s at (λ m. no_minus k u (sym (first_of s at e) ∙ m))
    ∙ unsigned_complete s at (subst (λ (t : List ℕ). Unsigned t k v rest) (sym e) u)
number_complete_at s at (minus {text = text} {rest = rest} u) e =
    let f : drop (at + 1) s ≡ text = sym (drop-drop 1 at s) ∙ ap (drop 1) e in
    number-minus s at (first_of s at e)
    ∙ found_from true Decimal s (at + 1) u.digits rest (f ∙ u.split) u.are-digits u.ends u.worth_is

pub number-complete : {below : Bool} {k : Radix} {v : ℕ} {rest : List ℕ} (s : List ℕ) (at : ℕ) → Number (drop at s) below k v rest
    → number_at s at ≡ Some (upto (numeral below k v) (cursor (length s - length rest)))
number-complete s at r = number_complete_at s at r refl

pub number-sound : (s : List ℕ) (at : ℕ) {n : Numeral} {c : Cursor} → number_at s at ≡ Some (upto n c) → NumberAt s at n c
number-sound s at {n} {c} e = go (eqb (get_or s at 0) 45) refl
  where
    go : (b : Bool) → eqb (get_or s at 0) 45 ≡ b → NumberAt s at n c
    go true t =
        let m = eqb-true (get_or s at 0) 45 t in
        let d = digits-sound true Decimal s (at + 1) (sym (number-minus s at m) ∙ e) in
        stands_from (Number (drop at s)) true Decimal s at (at + 1) (omega arith) d
        (rw (begins s at 45 (omega arith) m)
        (minus (record { digits = d.digits; split = d.split; are-digits = d.are-digits; ends = d.ends; worth_is = refl })))
    go false t =
        let u = unsigned_sound s at (sym (number-plain s at (eqb-false (get_or s at 0) 45 t)) ∙ e) in
        record {
          worth_is = u.worth_is;
          reads = subst (λ (b : Bool). Number (drop at s) b n.radix u.worth_is (drop c.at s)) (sym u.reads.0) (plain u.reads.1);
          magnitude_is = u.magnitude_is;
          moved = u.moved;
          within = u.within;
        }

-- ---- one reading

same_digits : (k : Radix) {text rest rest' : List ℕ} {v v' : ℕ} → Unsigned text k v rest → Unsigned text k v' rest'
    → (v ≡ v') × (rest ≡ rest')
same_digits k {text} {rest} {rest'} u u' =
    let e : u.digits ++ rest ≡ u'.digits ++ rest' = sym (digits-place text 0 u) ∙ digits-place text 0 u' in
    let h : base k ≤ 17 = omega (arith, base-small k) in
    let r : run (base k) (u.digits ++ rest) ≡ length u.digits = run_of (base k) u.digits rest h u.are-digits.all u.ends in
    let r' : run (base k) (u'.digits ++ rest') ≡ length u'.digits = run_of (base k) u'.digits rest' h u'.are-digits.all u'.ends in
    let n : length u.digits ≡ length u'.digits = sym r ∙ rw e r' in
    let d : u.digits ≡ u'.digits = sym (take-append_seam u.digits rest) ∙ rw (e, n) (take-append_seam u'.digits rest') in
    (u.worth_is ∙ rw d (sym u'.worth_is), sym (drop-append_seam u.digits rest) ∙ rw (e, n) (drop-append_seam u'.digits rest'))

pub unsigned_once : {text rest rest' : List ℕ} {k k' : Radix} {v v' : ℕ} → Unsigned text k v rest → Unsigned text k' v' rest'
    → (k ≡ k') × (v ≡ v') × (rest ≡ rest')
unsigned_once {text} {rest' = rest'} {k} {k'} {v' = v'} u u' =
    let e : k' ≡ k = sym (radix_is k' u') ∙ radix_is k u in
    let p = same_digits k u (subst (λ (m : Radix). Unsigned text m v' rest') e u') in
    (sym e, p.0, p.1)

pub number-once : {text rest rest' : List ℕ} {below below' : Bool} {k k' : Radix} {v v' : ℕ}
    → Number text below k v rest → Number text below' k' v' rest' → (below ≡ below') × (k ≡ k') × (v ≡ v') × (rest ≡ rest')
number-once (plain u) (plain u') = let p = unsigned_once u u' in (refl, p.0, p.1, p.2)
number-once (plain {k = k} u) (minus u') = absurd (no_minus k u refl)
number-once (minus u) (plain {k = k} u') = absurd (no_minus k u' refl)
number-once (minus u) (minus u') = let p = unsigned_once u u' in (refl, p.0, p.1, p.2)

-- ---- exactly: what a reader answers, where it is sound and complete for a rule

module _ (Rule : Bool → Radix → ℕ → List ℕ → Type 0) (r : Option (Read Numeral)) (s : List ℕ) (at : ℕ)
    (complete : (below : Bool) (k : Radix) (v : ℕ) (rest : List ℕ) → Rule below k v rest → r ≡ Some (upto (numeral below k v) (cursor (length s - length rest))))
    (sound : (n : Numeral) (c : Cursor) → r ≡ Some (upto n c) → Stands Rule s at n c) where
  found-exactly : {n : Numeral} {c : Cursor} → (r ≡ Some (upto n c)) ↔ Stands Rule s at n c
  found-exactly {n} {c} = (sound n c, back)
    where
      back : Stands Rule s at n c → r ≡ Some (upto n c)
      back t =
          let p : length s - length (drop c.at s) ≡ c.at = omega (arith, length-drop c.at s, t.within) in
          complete n.negative n.radix t.worth_is (drop c.at s) t.reads
          ∙ ap₂ (λ (m p : ℕ). (Some (upto (record { negative = n.negative; radix = n.radix; magnitude = m }) (cursor p)))) (sym t.magnitude_is) p

  absent-exactly : (r ≡ None) ↔ ((below : Bool) (k : Radix) (v : ℕ) (rest : List ℕ) → Rule below k v rest → ⊥)
  absent-exactly = (λ a below k v rest q. let f = complete below k v rest q in let z : ◌≡◌ {A = ℕ} 0 1 = cc in omega arith, λ h. go h r refl)
    where
      go : ((below : Bool) (k : Radix) (v : ℕ) (rest : List ℕ) → Rule below k v rest → ⊥) → (q : Option (Read Numeral)) → r ≡ q → r ≡ None
      go h (Some r) e = let t = sound r.value r.next e in absurd (h r.value.negative r.value.radix t.worth_is (drop r.next.at s) t.reads)
      go h None e = e

module _ (s : List ℕ) (at : ℕ) where
  signless-complete : (below : Bool) (k : Radix) (v : ℕ) (rest : List ℕ) → SignLess (drop at s) below k v rest
      → unsigned_at s at ≡ Some (upto (numeral below k v) (cursor (length s - length rest)))
  signless-complete below k v rest u =
      unsigned_complete s at u.1 ∙ ap (λ (b : Bool). (Some (upto (numeral b k v) (cursor (length s - length rest))))) (sym u.0)

  pub unsigned_exactly : {n : Numeral} {c : Cursor} → (unsigned_at s at ≡ Some (upto n c)) ↔ UnsignedAt s at n c
  unsigned_exactly = found-exactly (SignLess (drop at s)) (unsigned_at s at) s at signless-complete (λ n c e. unsigned_sound s at e)

  pub unsigned_absent : (unsigned_at s at ≡ None) ↔ ((k : Radix) (v : ℕ) (rest : List ℕ) → Unsigned (drop at s) k v rest → ⊥)
  unsigned_absent =
      let p = absent-exactly (SignLess (drop at s)) (unsigned_at s at) s at signless-complete (λ n c e. unsigned_sound s at e) in
      (λ a k v rest u. p.0 a false k v rest (refl, u), λ h. p.1 (λ below k v rest u. h k v rest u.1))

  pub number-exactly : {n : Numeral} {c : Cursor} → (number_at s at ≡ Some (upto n c)) ↔ NumberAt s at n c
  number-exactly = found-exactly (Number (drop at s)) (number_at s at) s at (λ below k v rest r. number-complete s at r) (λ n c e. number-sound s at e)

  pub number-absent : (number_at s at ≡ None) ↔ ((below : Bool) (k : Radix) (v : ℕ) (rest : List ℕ) → Number (drop at s) below k v rest → ⊥)
  number-absent = absent-exactly (Number (drop at s)) (number_at s at) s at (λ below k v rest r. number-complete s at r) (λ n c e. number-sound s at e)

  pub rest-stands : {below : Bool} {k : Radix} {v : ℕ} {rest : List ℕ} → Number (drop at s) below k v rest → drop (length s - length rest) s ≡ rest
  rest-stands r = (number-once (number-sound s at (number-complete s at r)).reads r).3
