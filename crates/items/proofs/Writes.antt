-- What is written turn by turn is what the whole row gives: a character of a string, an item of a row.
use Prim.Native.Nat.{ℕ, suc, ◌+◌}
use mathlib.Core.Bool.{Bool, true, false, false≢true, cond, ◌&&◌}
use mathlib.Core.List.{List, [], ◌∷◌, ◌++◌}
use mathlib.Core.Path.{◌≡◌, refl, sym, ap, subst, ◌∙◌}
use native.Mathlib.Nat.{add-zero}
use native.Mathlib.Omega.{arith}
use lib.ListN.{length, drop, set}
use lib.Seq.{sets}
use mir.Syntax.{w16}
use mir.Val.{of_z}
use Rattle.numerals.specs.Numbers.{value_of, in_range, kept_of}
use Rattle.numerals.specs.declared.Cursor.{Cursor}
use Rattle.std.proofs.Common.{Some, None, Result, Ok, Err, is_ok}
use Rattle.numerals.specs.declared.Read.{Read}
use Rattle.items.specs.declared.ItemsFault.{ItemsFault}
use Rattle.items.specs.declared.ItemsFault.TheVariants.{OutOfRange}
use Rattle.numerals.specs.declared.Numeral.{Numeral}
use Rattle.tokens.specs.Strings.{Characters}
use Rattle.tokens.specs.Reading.{character_at, token_at, tokens_from}
use Rattle.tokens.specs.declared.Character.TheVariants.{Stands}
use Rattle.tokens.specs.Commas.{follows_of}
use Rattle.tokens.specs.declared.Follows.{Follows}
use Rattle.tokens.specs.declared.Follows.TheVariants.{Comma, Over, Neither}
use Rattle.tokens.specs.declared.Kind.TheVariants as K
use Rattle.tokens.specs.declared.Token.{Token}
use Rattle.tokens.proofs.Quoted.{ReadAt, characters-read}
use Rattle.items.specs.Items.{Item, number, item_cells, item_in_range, cells_of, all_in_range}
use Rattle.items.specs.Reading.{characters, item, RowRead, reads, wrong, cons, walk, judged, items_read}
use Rattle.items.specs.Inner.Turns.{string_at, item_at, measured, accepted, cells_at}
use Rattle.items.specs.Writing.{accepted_cells, cells_from}
use Rattle.items.specs.declared.Measure.{Measure}
use Rattle.items.proofs.Measures.{quote_at, FoundItem, no_item}
use Rattle.items.proofs.Walks.{item_on, item-turn, walked}

-- a row written after another
pub sets_append : (row : List ℕ) (to : ℕ) (xs ys : List ℕ) → sets row to (xs ++ ys) ≡ sets (sets row to xs) (to + length xs) ys
sets_append row to [] ys = ap (λ (n : ℕ). sets row n ys) (sym (add-zero to))
sets_append row to (x ∷ xs) ys =
    sets_append (set row to x) (suc to) xs ys ∙ ap (λ (n : ℕ). sets (sets (set row to x) (suc to) xs) n ys) (omega arith)

-- ---- the characters of a string, and its 0 cell

module _ (s : List ℕ) (from : ℕ) (row : List ℕ) (to : ℕ) where
  -- all that the string gives
  abbrev pub Whole : List ℕ → Type 0
  Whole ms = (cs rest : List ℕ) → Characters (drop from s) cs rest → ms ≡ sets row to (cs ++ (0 ∷ []))

  -- at `i` the rest of the string is left, to be written from `n` on
  abbrev pub Left : ℕ → List ℕ → ℕ → Type 0
  Left i ms n =
      (cs rest : List ℕ) → Characters (drop from s) cs rest
      → (ds : List ℕ) × Characters (drop i s) ds rest × (sets row to (cs ++ (0 ∷ [])) ≡ sets ms n (ds ++ (0 ∷ [])))

  pub string-start : Left from row to
  string-start cs rest r = (cs, r, refl)

  module _ (i : ℕ) (ms : List ℕ) (n : ℕ) (left : Left i ms n) where
    pub string_on : {b : ℕ} {c : Cursor} {ns : List ℕ} {m : ℕ} → character_at s i ≡ Stands b c → ns ≡ set ms n b → m ≡ suc n → Left c.at ns m
    string_on {b} {c} {ns} {m} e w k cs rest r = let h = left cs rest r in go h.0 h.2 (characters-read s i h.1 refl)
      where
        go : (ds : List ℕ) → sets row to (cs ++ (0 ∷ [])) ≡ sets ms n (ds ++ (0 ∷ [])) → ReadAt s i ds rest
            → (es : List ℕ) × Characters (drop c.at s) es rest × (sets row to (cs ++ (0 ∷ [])) ≡ sets ns m (es ++ (0 ∷ [])))
        go [] q t = let z : ◌≡◌ {A = ℕ} 0 1 = cc t.0 in absurd (omega arith)
        go (d ∷ ds) q t =
            let p : t.0 ≡ c = cc t.1 in
            let u : d ≡ b = cc t.1 in
            (ds, subst (λ (x : Cursor). Characters (drop x.at s) ds rest) p t.2, q ∙ rw (w, k, u))

    -- where no character stands, the 0 cell is left
    pub string-end : {ns : List ℕ} → ((b : ℕ) (c : Cursor) → character_at s i ≡ Stands b c → ⊥) → ns ≡ set ms n 0 → Whole ns
    string-end {ns} none w cs rest r = let h = left cs rest r in go h.0 h.2 (characters-read s i h.1 refl)
      where
        go : (ds : List ℕ) → sets row to (cs ++ (0 ∷ [])) ≡ sets ms n (ds ++ (0 ∷ [])) → ReadAt s i ds rest → ns ≡ sets row to (cs ++ (0 ∷ []))
        go [] q t = w ∙ sym q
        go (d ∷ ds) q t = absurd (none d t.0 t.1)

-- a string at a place
pub text-written : (s : List ℕ) (at : ℕ) {t : Token} (row : List ℕ) (to : ℕ) {ms : List ℕ} → t ≡ token_at s at → t.kind ≡ K.Text
    → Whole s (t.start + 1) row to ms → ms ≡ sets row to (cells_at (string_at s (token_at s at)))
text-written s at {t} row to {ms} e q f =
    let h = quote_at s at e q in
    let w : ms ≡ sets row to (characters (drop (t.start + 1) s) ++ (0 ∷ [])) = f h.cs (drop t.next.at s) h.reads ∙ rw h.same in
    w ∙ rw (← e, q)

-- ---- an item at a place

-- "kept modulo 65536"
pub number-cell : (n : Numeral) {x : ℕ} → kept_of n ≡ Some x → item_cells (number n) ≡ x ∷ []
unfolding kept_of
number-cell n {x} e = go (in_range (value_of n)) e
  where
    go : (b : Bool) → cond b (Some (of_z w16 (value_of n))) None ≡ Some x → item_cells (number n) ≡ x ∷ []
    go true e = cc
    go false e = let z : ◌≡◌ {A = ℕ} 0 1 = cc in absurd (omega arith)

-- ---- the items of a row

-- the first item's cells, and those of the rest
pub record First (i : Item) (r : RowRead) : Type 0 where
  pub fits : item_in_range i ≡ true
  pub rest : accepted r ≡ true
  pub cells : accepted_cells (cons i r) ≡ item_cells i ++ accepted_cells r

pub first : (i : Item) (r : RowRead) → accepted (cons i r) ≡ true → First i r
unfolding cells_of all_in_range
first i (reads is) e = go (item_in_range i) (all_in_range is) refl refl e
  where
    go : (a b : Bool) → item_in_range i ≡ a → all_in_range is ≡ b → (a && b) ≡ true → First i (reads is)
    go true true p q e = record { fits = p; rest = q; cells = rw (p, q) }
    go true false p q e = absurd (false≢true e)
    go false b p q e = absurd (false≢true e)
first i wrong e = absurd (false≢true e)

module _ (s : List ℕ) (at : ℕ) (ok : accepted (walk s item (tokens_from s at)) ≡ true) where
  pub some_item : measured (item_at s at) ≡ None → ⊥
  some_item e = false≢true (sym (ap accepted (item-turn s at ∙ ap (item_on s) (no_item s at e))) ∙ ok)

  module _ {r : Read Measure} (h : FoundItem s at r) where
    some_end : follows_of (token_at s r.next.at) ≡ Neither → ⊥
    some_end e = false≢true (sym (ap accepted (walked s at h e)) ∙ ok)

    headed : (rest : RowRead) → walk s item (tokens_from s at) ≡ cons h.item rest → First h.item rest
    headed rest e = first h.item rest (sym (ap accepted e) ∙ ok)

    -- the item's cells, and then those of the rest
    written : (row : List ℕ) (to : ℕ) {ms : List ℕ} (rest : RowRead) → walk s item (tokens_from s at) ≡ cons h.item rest
        → ms ≡ sets row to (cells_at (item_at s at)) → sets row to (cells_from s (tokens_from s at)) ≡ sets ms (to + r.value.cells) (accepted_cells rest)
    unfolding cells_from
    written row to {ms} rest e w =
        let f = headed rest e in
        let i : ms ≡ sets row to (item_cells h.item) = w ∙ rw (h.is, f.fits) in
        ap (λ (x : RowRead). sets row to (accepted_cells x)) e ∙ ap (sets row to) f.cells ∙ sets_append row to (item_cells h.item) (accepted_cells rest) ∙ rw (← i, ← h.cells)

    -- the last item: no comma follows, and nothing else that is refused
    pub last_written : (row : List ℕ) (to : ℕ) {ms : List ℕ} → ((d : Cursor) → follows_of (token_at s r.next.at) ≡ Comma d → ⊥)
        → ms ≡ sets row to (cells_at (item_at s at)) → ms ≡ sets row to (cells_from s (tokens_from s at))
    unfolding cells_of all_in_range
    last_written row to {ms} none w = go (follows_of (token_at s r.next.at)) refl
      where
        go : (x : Follows) → follows_of (token_at s r.next.at) ≡ x → ms ≡ sets row to (cells_from s (tokens_from s at))
        go (Comma d) e = absurd (none d e)
        go Over e = sym (written row to (reads []) (walked s at h e) w)
        go Neither e = absurd (some_end e)

    pub next-accepted : {d : Cursor} → follows_of (token_at s r.next.at) ≡ Comma d → accepted (walk s item (tokens_from s d.at)) ≡ true
    unfolding walk
    next-accepted {d} e = (headed (walk s item (tokens_from s d.at)) (walked s at h e)).rest

    pub next-written : (row : List ℕ) (to : ℕ) {ms : List ℕ} {d : Cursor} {n : ℕ} → follows_of (token_at s r.next.at) ≡ Comma d
        → ms ≡ sets row to (cells_at (item_at s at)) → n ≡ to + r.value.cells
        → sets row to (cells_from s (tokens_from s at)) ≡ sets ms n (cells_from s (tokens_from s d.at))
    unfolding cells_from walk
    next-written row to {ms} {d} e w q =
        written row to (walk s item (tokens_from s d.at)) (walked s at h e) w ∙ ap (λ (x : ℕ). sets ms x (accepted_cells (walk s item (tokens_from s d.at)))) (sym q)

-- ---- the cells by the reply of `items`

-- what a reply to a row's result says of the cells
abbrev pub Given : RowRead → Result ℕ ItemsFault → Type 0
Given x (Ok n) = (accepted x ≡ true) × (length (accepted_cells x) ≡ n)
Given x (Err why) = accepted_cells x ≡ []

judged-given : (x : RowRead) → Given x (judged x)
judged-given (reads is) = go (all_in_range is) refl
  where
    go : (b : Bool) → all_in_range is ≡ b → Given (reads is) (cond b (Ok (length (cells_of is))) (Err OutOfRange))
    go true q = (q, rw q)
    go false q = rw q
judged-given wrong = refl

module _ (line : List ℕ) (ts : List Token) where
  pub given : {r : Result ℕ ItemsFault} → items_read line ts ≡ r → Given (walk line item ts) r
  unfolding items_read
  given e = subst (Given (walk line item ts)) e (judged-given (walk line item ts))

  pub accepted_ok : is_ok (items_read line ts) ≡ true → accepted (walk line item ts) ≡ true
  accepted_ok e = go (items_read line ts) refl e
    where
      go : (r : Result ℕ ItemsFault) → items_read line ts ≡ r → is_ok r ≡ true → accepted (walk line item ts) ≡ true
      go (Ok n) q e = (given q).0
      go (Err why) q e = absurd (false≢true e)

  pub none_refused : is_ok (items_read line ts) ≡ false → cells_from line ts ≡ []
  unfolding cells_from
  none_refused e = go (items_read line ts) refl e
    where
      go : (r : Result ℕ ItemsFault) → items_read line ts ≡ r → is_ok r ≡ false → accepted_cells (walk line item ts) ≡ []
      go (Ok n) q e = absurd (false≢true (sym e))
      go (Err why) q e = given q
