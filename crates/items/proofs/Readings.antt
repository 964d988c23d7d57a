-- The walk reads what the rule gives and nothing else.
use Prim.Native.Nat.{ℕ, zero, suc, ◌+◌, ◌-◌, ◌≤◌, ◌<◌}
use Prim.Native.Char.{code}
use mathlib.Core.List.{List, [], ◌∷◌, ◌++◌, append-nil}
use mathlib.Core.Path.{◌≡◌, refl, sym, ap, subst, ◌∙◌}
use native.Mathlib.Omega.{arith}
use lib.ListN.{length, drop}
use Rattle.numerals.specs.declared.Numeral.{Numeral}
use Rattle.tokens.specs.Strings.{Characters}
use Rattle.tokens.specs.Marks.{IsMark}
use Rattle.tokens.specs.Reading.{token_at, tokens_from}
use Rattle.tokens.specs.declared.Kind.{Kind}
use Rattle.tokens.specs.declared.Kind.TheVariants as K
use Rattle.tokens.specs.declared.Token.{Token}
use Rattle.tokens.proofs.Places.{token_placed}
use Rattle.values.specs.Values.{BelowZero, plain, minus}
use Rattle.values.specs.Values as Values
use Rattle.values.specs.Reading.{value_by}
use Rattle.tokens.proofs.Heads.{row_of, ends_of}
use Rattle.values.proofs.Walks as Walks
use Rattle.values.proofs.Walks.{never, Each}
use Rattle.values.proofs.Begins.{value_cases, digits_cases, digits-read}
use Rattle.items.specs.Items.{Item, number, ItemText, is_number, is_string, Items, one, more}
use Rattle.items.specs.Reading.{characters, State, item, digits, done, Step, to, halt, reads, on_text, cons, finish, string_of, step, walk}
use Rattle.items.proofs.Counts.{characters_of}
use Rattle.items.proofs.Measures.{quote_at}

-- ---- the strings of a row stand in its line

-- the characters of a token that is a string
abbrev Spelt : List ℕ → Token → Type 0
Spelt line t = t.kind ≡ K.Text → Characters (drop (t.start + 1) line) (characters (drop (t.start + 1) line)) (drop t.next.at line)

abbrev pub InLine : List ℕ → List Token → Type 0
InLine line ts = Each (Spelt line) ts

spelt : (line : List ℕ) (at : ℕ) → Spelt line (token_at line at)
spelt line at e =
    let t = token_at line at in
    let h = quote_at line at refl e in
    subst (λ (cs : List ℕ). Characters (drop (t.start + 1) line) cs (drop t.next.at line)) (sym h.same) h.reads

in_line_within : (line : List ℕ) (n at : ℕ) → length line - at < n → InLine line (tokens_from line at)
in_line_within line zero at l = absurd (omega arith)
in_line_within line (suc n) at l = go (token_at line at).kind refl (λ m h k. in_line_within line n m (omega arith))
  where
    some : tokens_from line at ≡ token_at line at ∷ tokens_from line (token_at line at).next.at
        → ((token_at line at).start < (token_at line at).next.at) × ((token_at line at).next.at ≤ length line)
        → ((m : ℕ) → at < m → m ≤ length line → InLine line (tokens_from line m)) → InLine line (tokens_from line at)
    some e h f = rw e (spelt line at, f (token_at line at).next.at (omega (arith, (token_placed line at).starts)) h.1)

    go : (k : Kind) → (token_at line at).kind ≡ k → ((m : ℕ) → at < m → m ≤ length line → InLine line (tokens_from line m))
        → InLine line (tokens_from line at)
    go K.End q f = rw (row_of line at q) tt
    go K.Stray q f = rw (row_of line at q) (spelt line at, tt)
    go K.Word q f = some (row_of line at q) (ends_of line at q) f
    go (K.Number v k) q f = some (row_of line at q) (ends_of line at q) f
    go K.Text q f = some (row_of line at q) (ends_of line at q) f
    go (K.Mark b) q f = some (row_of line at q) (ends_of line at q) f

pub in_line : (line : List ℕ) (at : ℕ) → InLine line (tokens_from line at)
in_line line at = in_line_within line (suc (length line - at)) at (omega arith)

module _ (line : List ℕ) where
  -- ---- what the rule gives is read

  item-complete : {ts : List Token} {i : Item} → ItemText line ts i → (rest : List Token) → walk line item (ts ++ rest) ≡ walk line (done i) rest
  unfolding walk
  item-complete (is_number (plain e)) rest = rw e
  item-complete (is_number (minus m (Values.digits e d))) rest = rw (m, e, d)
  item-complete (is_string {t} {cs} e r) rest = rw (e, characters_of r)

  comma : (i : Item) (c : Token) (us : List Token) → IsMark (code ",") c → walk line (done i) (c ∷ us) ≡ cons i (walk line item us)
  unfolding walk
  comma i c us e = rw e

  pub complete : {ts : List Token} {is : List Item} → Items line ts is → walk line item ts ≡ reads is
  unfolding walk
  complete (one {ts} u) = rw (append-nil ts) at (item-complete u [])
  complete (more {ts} {us} {i} c u e r) = item-complete u (c ∷ us) ∙ comma i c us e ∙ ap (cons i) (complete r)

  pub once : {ts : List Token} {is is' : List Item} → Items line ts is → Items line ts is' → is ≡ is'
  once r q = let e = complete r in let f = complete q in cc

  -- ---- what is read the rule gives

  -- what has been read of an item, by the state: what may follow makes it one
  abbrev Read : State → List Token → Type 0
  Read item cur = cur ≡ []
  Read digits cur = (t : Token) (n : Numeral) → BelowZero t n → ItemText line (cur ++ t ∷ []) (number n)
  Read (done i) cur = ItemText line cur i

  abbrev Stepped : Token → List Token → Step → Type 0
  Stepped t cur x = Walks.Stepped (ItemText line) Read t cur x

  step-read : (st : State) (t : Token) (cur : List Token) → Spelt line t → Read st cur → Stepped t cur (step line st t)
  step-read item t cur w h =
      rw h (value_cases t (λ q. by q tt) (λ v k q. by q (is_number (plain q))) (λ q. by q (λ u n b. is_number (minus q b)))
      (λ z. subst (Stepped t []) (sym (z Step _ (λ n. to (done (number n))) (to digits) _)) (text t.kind refl)))
    where
      string : Kind → Step
      string k = on_text halt (to (done (string_of line t))) k

      by : {k : Kind} → t.kind ≡ k → Stepped t [] (value_by halt (λ n. to (done (number n))) (to digits) (string k) k) → Stepped t [] (step line item t)
      by q p = subst (λ (k : Kind). Stepped t [] (value_by halt (λ n. to (done (number n))) (to digits) (string k) k)) (sym q) p

      text : (k : Kind) → t.kind ≡ k → Stepped t [] (string k)
      text K.End q = tt
      text K.Stray q = tt
      text K.Word q = tt
      text (K.Number v k) q = tt
      text K.Text q = is_string q (w q)
      text (K.Mark b) q = tt
  step-read digits t cur w h =
      digits_cases t (λ n b. subst (Stepped t cur) (sym (digits-read goes halt b)) (h t n b)) (λ z. subst (Stepped t cur) (sym (z Step goes halt)) tt)
    where
      goes : Numeral → Step
      goes n = to (done (number n))
  step-read (done i) t cur w h = Walks.comma_case (ItemText line) Read t cur i h

  end-sound : (st : State) (cur : List Token) (is : List Item) → Read st cur → finish st ≡ reads is → Items line cur is
  end-sound item cur is h e = absurd (never e)
  end-sound digits cur is h e = absurd (never e)
  end-sound (done i) cur is h e = let q : i ∷ [] ≡ is = cc in rw (← q) (one h)

  pub sound : {ts : List Token} {is : List Item} → InLine line ts → walk line item ts ≡ reads is → Items line ts is
  unfolding walk
  sound {ts} {is} w e =
      Walks.sound item (step line) finish (ItemText line) (Items line) (λ ts us i is c u q r. more c u q r) Read refl (Spelt line)
      step-read end-sound ts is w e
