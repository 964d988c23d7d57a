-- One turn of the code's loop is one item of the walk.
use Prim.Native.Nat.{ℕ, ◌+◌}
use Prim.Native.Char.{code}
use mathlib.Core.Bool.{Bool, true, false, cond, ◌&&◌, and-true}
use mathlib.Core.List.{List, [], ◌∷◌, ◌++◌}
use mathlib.Core.Path.{◌≡◌, refl, sym, ap, ◌∙◌}
use native.Mathlib.Nat.{add-zero}
use native.Mathlib.Omega.{arith}
use lib.ListN.{length, length-append}
use Rattle.numerals.specs.declared.Cursor.{Cursor}
use Rattle.numerals.specs.declared.Numeral.{Numeral}
use Rattle.tokens.specs.Marks.{IsMark}
use Rattle.tokens.specs.Reading.{token_at, tokens_from}
use Rattle.tokens.specs.Commas.{follows_of}
use Rattle.tokens.specs.declared.Follows.{Follows}
use Rattle.tokens.specs.declared.Follows.TheVariants.{Comma, Over, Neither}
use Rattle.tokens.specs.declared.Kind.{Kind}
use Rattle.tokens.specs.declared.Kind.TheVariants as K
use Rattle.tokens.specs.declared.Token.{Token}
use Rattle.values.specs.Reading.{minus_at, value_at}
use Rattle.values.specs.Values.{numeral}
use Rattle.values.specs.declared.Value.TheVariants.{Number}
use Rattle.std.proofs.Common.{Option, Some, None, Ok, Err}
use Rattle.numerals.specs.Reading.{upto}
use Rattle.numerals.specs.declared.Read.{Read}
use Rattle.values.specs.declared.Value.{Value}
use Rattle.items.specs.declared.ItemsFault.TheVariants.{WrongForm, OutOfRange}
use Rattle.tokens.proofs.Heads.{row_of}
use Rattle.values.proofs.Walks as Walks
use Rattle.values.proofs.Walks.{turned, finished}
use Rattle.values.proofs.Begins.{value_cases, digits_cases, digits-read, digits-row}
use Rattle.items.specs.Items.{Item, number, item_cells, item_in_range, cells_of, all_in_range}
use Rattle.items.specs.Reading.{State, item, digits, done, Step, to, halt, RowRead, reads, wrong, on_text, cons, finish, string_of, step, walk, judged, items_read}
use Rattle.items.specs.Inner.Turns.{Standing, stands, none, string_at, number_item, item_by, item_at, measured, verdict}
use Rattle.items.specs.declared.Measure.{Measure}
use Rattle.items.proofs.Measures.{FoundItem, no_item}

-- ---- the walk from a place on

-- what an answer says of the walk
abbrev pub item_on : List ℕ → Standing → RowRead
item_on s (stands i c) = walk s (done i) (tokens_from s c.at)
item_on s none = wrong

abbrev value_on : List ℕ → Option (Read Value) → RowRead
value_on s (Some r) = item_on s (number_item r.value r.next)
value_on s None = wrong

abbrev pub follows_on : List ℕ → Item → Follows → RowRead
follows_on s i x = Walks.follows_on item (step s) finish s i x

module _ (s : List ℕ) (at : ℕ) where
  -- a token that the walk takes, and one that it does not
  taken : (st x : State) {ts : List Token} → tokens_from s at ≡ token_at s at ∷ ts → step s st (token_at s at) ≡ to x
      → walk s st (tokens_from s at) ≡ walk s x ts
  unfolding walk
  taken st x e h = turned item (step s) finish s at st e h

  halted : (st : State) → finish st ≡ wrong → step s st (token_at s at) ≡ halt → walk s st (tokens_from s at) ≡ wrong
  unfolding walk
  halted st z h = Walks.halted item (step s) finish s at st z h

  digits-turn : walk s digits (tokens_from s at) ≡ value_on s (minus_at s at)
  unfolding minus_at
  digits-turn =
      digits_cases (token_at s at)
      (λ n b. taken digits (done (number n)) (digits-row s at b) (digits-read goes halt b) ∙ ap (value_on s) (sym (digits-read found None b)))
      (λ h. halted digits refl (h Step goes halt) ∙ ap (value_on s) (sym (h (Option (Read Value)) found None)))
    where
      found : Numeral → Option (Read Value)
      found n = Some (upto (Number n) (token_at s at).next)

      goes : Numeral → Step
      goes n = to (done (number n))

module _ (s : List ℕ) (at : ℕ) where
  pub item-turn : walk s item (tokens_from s at) ≡ item_on s (item_at s at)
  unfolding item_at value_at
  item-turn =
      value_cases (token_at s at) (λ q. no (rw q) (rw q)) (λ v k q. yes (number (numeral false k v)) (row_of s at q) (rw q) (rw q)) minus-turn
      (λ h. string-turn (token_at s at).kind refl (h Step _ (λ n. to (done (number n))) (to digits) _)
      (ap (item_by s at) (h (Option (Read Value)) _ (λ n. (Some (upto (Number n) (token_at s at).next))) (minus_at s (token_at s at).next.at) None)))
    where
      no : step s item (token_at s at) ≡ halt → item_at s at ≡ none → walk s item (tokens_from s at) ≡ item_on s (item_at s at)
      no h e = halted s at item refl h ∙ ap (item_on s) (sym e)

      yes : (i : Item) → tokens_from s at ≡ token_at s at ∷ tokens_from s (token_at s at).next.at → step s item (token_at s at) ≡ to (done i)
          → item_at s at ≡ stands i (token_at s at).next → walk s item (tokens_from s at) ≡ item_on s (item_at s at)
      yes i e h p = taken s at item (done i) e h ∙ ap (item_on s) (sym p)

      -- what follows a `-`, which is no string
      minus : IsMark (code "-") (token_at s at) → (r : Option (Read Value)) → value_on s r ≡ item_on s (item_by s at r)
      minus q (Some r) = refl
      minus q None = rw q

      minus-turn : IsMark (code "-") (token_at s at) → walk s item (tokens_from s at) ≡ item_on s (item_at s at)
      minus-turn q =
          let next = (token_at s at).next.at in
          let p : item_at s at ≡ item_by s at (minus_at s next) = rw q in
          taken s at item digits (row_of s at q) (rw q) ∙ digits-turn s next ∙ minus q (minus_at s next) ∙ ap (item_on s) (sym p)

      -- no value, so a string at most
      string-turn : (k : Kind) → (token_at s at).kind ≡ k
          → step s item (token_at s at) ≡ on_text halt (to (done (string_of s (token_at s at)))) (token_at s at).kind
          → item_at s at ≡ string_at s (token_at s at)
          → walk s item (tokens_from s at) ≡ item_on s (item_at s at)
      string-turn K.End q h p = no (h ∙ rw q) (p ∙ rw q)
      string-turn K.Stray q h p = no (h ∙ rw q) (p ∙ rw q)
      string-turn K.Word q h p = no (h ∙ rw q) (p ∙ rw q)
      string-turn (K.Number v k) q h p = no (h ∙ rw q) (p ∙ rw q)
      string-turn K.Text q h p = yes (string_of s (token_at s at)) (row_of s at q) (h ∙ rw q) (p ∙ rw q)
      string-turn (K.Mark b) q h p = no (h ∙ rw q) (p ∙ rw q)

  pub done-turn : (i : Item) → walk s (done i) (tokens_from s at) ≡ follows_on s i (follows_of (token_at s at))
  unfolding walk
  done-turn i = finished item (step s) finish s at (done i) i refl refl

-- ---- the verdict on what is left

pub verdict-start : (line : List ℕ) (ts : List Token) → items_read line ts ≡ verdict 0 true (walk line item ts)
unfolding items_read
verdict-start line ts = go (walk line item ts)
  where
    go : (r : RowRead) → judged r ≡ verdict 0 true r
    go (reads is) = ap (λ (m : ℕ). cond (all_in_range is) (Ok m) (Err OutOfRange)) (omega arith)
    go wrong = refl

verdict-cons : (n : ℕ) (f : Bool) (i : Item) (r : RowRead) → verdict n f (cons i r) ≡ verdict (n + length (item_cells i)) (f && item_in_range i) r
unfolding cells_of all_in_range
verdict-cons n true i (reads is) =
    let p : n + length (item_cells i ++ cells_of is) ≡ n + length (item_cells i) + length (cells_of is) =
    omega (arith, length-append (item_cells i) (cells_of is)) in
    ap (λ (m : ℕ). cond (item_in_range i && all_in_range is) (Ok m) (Err OutOfRange)) p
verdict-cons n false i (reads is) = refl
verdict-cons n f i wrong = refl

-- the item, and what follows it
pub walked : (s : List ℕ) (at : ℕ) {r : Read Measure} {x : Follows} (h : FoundItem s at r) → follows_of (token_at s r.next.at) ≡ x
    → walk s item (tokens_from s at) ≡ follows_on s h.item x
walked s at {r} h e = item-turn s at ∙ ap (item_on s) h.is ∙ done-turn s r.next.at h.item ∙ ap (follows_on s h.item) e

module _ (s : List ℕ) (at n : ℕ) (f : Bool) where
  pub turn-absent : measured (item_at s at) ≡ None → verdict n f (walk s item (tokens_from s at)) ≡ Err WrongForm
  turn-absent e = ap (verdict n f) (item-turn s at ∙ ap (item_on s) (no_item s at e))

  module _ {r : Read Measure} (h : FoundItem s at r) where
    added : (g : Bool) (rest : RowRead) → g ≡ (f && r.value.fits) → verdict n f (cons h.item rest) ≡ verdict (n + r.value.cells) g rest
    added g rest e = verdict-cons n f h.item rest ∙ rw (← h.cells, ← h.fits, ← e)

    pub turn-over : {g : Bool} → follows_of (token_at s r.next.at) ≡ Over → g ≡ (f && r.value.fits)
        → verdict n f (walk s item (tokens_from s at)) ≡ cond g (Ok (n + r.value.cells)) (Err OutOfRange)
    unfolding cells_of all_in_range
    turn-over {g} e q = ap (verdict n f) (walked s at h e) ∙ added g (reads []) q ∙ rw (and-true g, add-zero (n + r.value.cells))

    pub turn-neither : follows_of (token_at s r.next.at) ≡ Neither → verdict n f (walk s item (tokens_from s at)) ≡ Err WrongForm
    turn-neither e = ap (verdict n f) (walked s at h e)

    pub turn-comma : {g : Bool} {d : Cursor} → follows_of (token_at s r.next.at) ≡ Comma d → g ≡ (f && r.value.fits)
        → verdict n f (walk s item (tokens_from s at)) ≡ verdict (n + r.value.cells) g (walk s item (tokens_from s d.at))
    unfolding walk
    turn-comma {g} {d} e q = ap (verdict n f) (walked s at h e) ∙ added g (walk s item (tokens_from s d.at)) q
