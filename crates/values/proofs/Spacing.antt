-- Values and labels of two lines with the same tokens (tokens' Spacing.antt), and walks over those tokens.
use Prim.Native.Nat.{ℕ}
use mathlib.Core.Bool.{Bool, true, false, cond}
use mathlib.Core.List.{List, [], ◌∷◌}
use mathlib.Core.Path.{◌≡◌, refl, ap}
use lib.Seq.{slice}
use Rattle.numerals.specs.declared.Numeral.{Numeral}
use Rattle.tokens.specs.Marks.{on_mark}
use Rattle.tokens.specs.Rows.{token}
use Rattle.tokens.specs.declared.Kind.{Kind}
use Rattle.tokens.specs.declared.Kind.TheVariants as K
use Rattle.tokens.specs.declared.Token.{Token}
use Rattle.tokens.proofs.Spacing.{AsDirectly, SameBytes, AlikeRow, over, next}
use Rattle.values.specs.Walks.{Step, RowRead, cons, stepped, walk}
use Rattle.values.specs.Walks as W
use Rattle.std.proofs.Common.{Option, Some, None}
use Rattle.values.specs.declared.Name.{Name}
use Rattle.values.specs.declared.Value.{Value}
use Rattle.values.specs.declared.Value.TheVariants.{Number, Label}

module _ (line line' : List ℕ) where
  -- two names with the same bytes, each in its line
  abbrev pub SameName : Name → Name → Type 0
  SameName n n' = slice n.start n.end line ≡ slice n'.start n'.end line'

  -- the same number, or labels with the same bytes
  pub data AlikeValue : Value → Value → Type 0 where
    number : (n : Numeral) → AlikeValue (Number n) (Number n)
    label : {n n' : Name} → SameName n n' → AlikeValue (Label n) (Label n')

  -- no label, or labels with the same bytes
  pub data AlikeLabel : Option Name → Option Name → Type 0 where
    absent : AlikeLabel None None
    named : {n n' : Name} → SameName n n' → AlikeLabel (Some n) (Some n')

-- ---- walks

-- two lists, element by element in a relation
pub data AlikeList {A : Type 0} (Same : A → A → Type 0) : List A → List A → Type 0 where
  none : AlikeList Same [] []
  some : {a a' : A} {xs xs' : List A} → Same a a' → AlikeList Same xs xs' → AlikeList Same (a ∷ xs) (a' ∷ xs')

pub data AlikeResult {A : Type 0} (Same : A → A → Type 0) : RowRead A → RowRead A → Type 0 where
  reads : {xs xs' : List A} → AlikeList Same xs xs' → AlikeResult Same (W.reads xs) (W.reads xs')
  wrong : AlikeResult Same W.wrong W.wrong

pub cons-alike : {A : Type 0} (Same : A → A → Type 0) (a a' : A) {r r' : RowRead A} → Same a a' → AlikeResult Same r r'
    → AlikeResult Same (cons a r) (cons a' r')
cons-alike Same a a' h (reads l) = reads (some h l)
cons-alike Same a a' h wrong = wrong

-- what is the same element by element is the same
pub list_same : {A : Type 0} {xs xs' : List A} → AlikeList (λ (a b : A). a ≡ b) xs xs' → xs ≡ xs'
list_same none = refl
list_same (some e l) = cc (e, list_same l)

pub result-same : {A : Type 0} {r r' : RowRead A} → AlikeResult (λ (a b : A). a ≡ b) r r' → r ≡ r'
result-same (reads l) = ap W.reads (list_same l)
result-same wrong = refl

module _ {S A : Type 0} (Near : S → S → Type 0) (Same : A → A → Type 0) where
  pub data AlikeStep : Step S A → Step S A → Type 0 where
    to : {st st' : S} → Near st st' → AlikeStep (W.to st) (W.to st')
    emit : {a a' : A} → Same a a' → AlikeStep (W.emit a) (W.emit a')
    halt : AlikeStep W.halt W.halt

  pub pick-alike : (y : Bool) {a a' b b' : Step S A} → AlikeStep a a' → AlikeStep b b' → AlikeStep (cond y a b) (cond y a' b')
  pick-alike true h g = h
  pick-alike false h g = g

  pub mark-alike : (k : Kind) {f f' : ℕ → Step S A} → ((b : ℕ) → AlikeStep (f b) (f' b)) → AlikeStep (on_mark W.halt f k) (on_mark W.halt f' k)
  mark-alike K.End h = halt
  mark-alike K.Stray h = halt
  mark-alike K.Word h = halt
  mark-alike (K.Number v k) h = halt
  mark-alike K.Text h = halt
  mark-alike (K.Mark b) h = h b

-- Near says, after a token of a kind, which states are alike. Steps of tokens that are alike lead to alike states; so walks give alike lists.
module _ {S A : Type 0} (line line' : List ℕ) (begin : S) (step step' : S → Token → Step S A) (finish : S → RowRead A)
    (Near : Kind → S → S → Type 0) (Same : A → A → Type 0) (begins : (k : Kind) → Near k begin begin)
    (ends : (k : Kind) (st st' : S) → Near k st st' → AlikeResult Same (finish st) (finish st'))
    (steps : (before k : Kind) (st st' : S) (at end at' end' : ℕ) (d d' : Bool) → AsDirectly true before k d d' → SameBytes line line' k at end at' end'
    → Near before st st'
    → AlikeStep (Near k) Same (step st (token k at d end)) (step' st' (token k at' d' end'))) where
  pub walk-alike : {before : Kind} {ts ts' : List Token} → AlikeRow line line' true before ts ts' → (st st' : S) → Near before st st'
      → AlikeResult Same (walk begin step finish st ts) (walk begin step' finish st' ts')
  walk-alike {before} over st st' h = ends before st st' h
  walk-alike {before} (next {at = at} {end} {at'} {end'} {d} {d'} {ts} {ts'} k m s r) st st' h =
      go (step st (token k at d end)) (step' st' (token k at' d' end')) (steps before k st st' at end at' end' d d' m s h)
      (λ x x' n. walk-alike r x x' n)
    where
      go : (y y' : Step S A) → AlikeStep (Near k) Same y y'
          → ((x x' : S) → Near k x x' → AlikeResult Same (walk begin step finish x ts) (walk begin step' finish x' ts'))
          → AlikeResult Same (stepped begin y (λ x. walk begin step finish x ts)) (stepped begin y' (λ x. walk begin step' finish x ts'))
      go (W.to x) (W.to x') (to n) f = f x x' n
      go (W.emit a) (W.emit a') (emit s) f = cons-alike Same a a' s (f begin begin (begins k))
      go W.halt W.halt halt f = wrong
      go (W.to x) (W.emit a') h f = elim h [ ]
      go (W.to x) W.halt h f = elim h [ ]
      go (W.emit a) (W.to x') h f = elim h [ ]
      go (W.emit a) W.halt h f = elim h [ ]
      go W.halt (W.to x') h f = elim h [ ]
      go W.halt (W.emit a') h f = elim h [ ]
