-- Two lines with the same tokens (tokens' Spacing.antt) have the same items, and so the same cells.
use Prim.Native.Nat.{ℕ}
use Prim.Native.Char.{code}
use mathlib.Core.Bool.{Bool, true, false, cond}
use mathlib.Core.List.{List}
use mathlib.Core.Path.{◌≡◌, refl, sym, ap, subst, ◌∙◌}
use lib.Dec.{eqb, T}
use Rattle.numerals.specs.declared.Radix.TheVariants.{Decimal, Hexadecimal}
use Rattle.tokens.specs.Rows.{token}
use Rattle.tokens.specs.declared.Kind.{Kind}
use Rattle.tokens.specs.declared.Kind.TheVariants as K
use Rattle.tokens.specs.declared.Token.{Token}
use Rattle.tokens.proofs.Spacing.{is_minus, AsDirectly, SameBytes, AlikeRow}
use Rattle.values.proofs.Spacing.{AlikeResult, AlikeStep, to, emit, halt, reads, wrong, some, none, result-same, pick-alike, mark-alike, walk-alike}
use Rattle.items.specs.Items.{Item, string}
use Rattle.items.specs.Reading as R
use Rattle.items.specs.Reading.{State, finish, step, walk, judged, items_read}
use Rattle.items.specs.Writing.{accepted_cells, cells_from}
use Rattle.items.proofs.Counts.{characters_of}

-- the same state; the digits' state only after a `-`
data Near : Kind → State → State → Type 0 where
  item : {k : Kind} → Near k R.item R.item
  digits : {k : Kind} → T (is_minus k) → Near k R.digits R.digits
  done : {k : Kind} (i : Item) → Near k (R.done i) (R.done i)

abbrev Same : Item → Item → Type 0
Same i i' = i ≡ i'

ends : (k : Kind) (st st' : State) → Near k st st' → AlikeResult Same (finish st) (finish st')
ends k st st' item = wrong
ends k st st' (digits t) = wrong
ends k st st' (done i) = reads (some refl none)

module _ (line line' : List ℕ) where
  steps : (before k : Kind) (st st' : State) (at end at' end' : ℕ) (d d' : Bool) → AsDirectly true before k d d' → SameBytes line line' k at end at' end'
      → Near before st st'
      → AlikeStep (Near k) Same (step line st (token k at d end)) (step line' st' (token k at' d' end'))
  steps before K.End st st' at end at' end' d d' m s item = halt
  steps before K.Stray st st' at end at' end' d d' m s item = halt
  steps before K.Word st st' at end at' end' d d' m s item = halt
  steps before (K.Number v r) st st' at end at' end' d d' m s item = to (done _)
  steps before K.Text st st' at end at' end' d d' m s item =
      let e : R.string_of line (token K.Text at d end) ≡ R.string_of line' (token K.Text at' d' end') =
      ap string (characters_of s.1 ∙ sym (characters_of s.2)) in
      subst (λ (i : Item). AlikeStep (Near K.Text) Same (R.to (R.done (R.string_of line (token K.Text at d end)))) (R.to (R.done i))) e (to (done _))
  steps before (K.Mark b) st st' at end at' end' d d' m s item = go (eqb b (code "-")) refl
    where
      go : (y : Bool) → eqb b (code "-") ≡ y → AlikeStep (Near (K.Mark b)) Same (cond y (R.to R.digits) R.halt) (cond y (R.to R.digits) R.halt)
      go true e = to (digits {k = K.Mark b} (rw e tt))
      go false e = halt
  steps before K.End st st' at end at' end' d d' m s (digits t) = halt
  steps before K.Stray st st' at end at' end' d d' m s (digits t) = halt
  steps before K.Word st st' at end at' end' d d' m s (digits t) = halt
  steps before (K.Number v Decimal) st st' at end at' end' d d' m s (digits t) = rw (m t) (pick-alike (Near _) Same d' (to (done _)) halt)
  steps before (K.Number v Hexadecimal) st st' at end at' end' d d' m s (digits t) = halt
  steps before K.Text st st' at end at' end' d d' m s (digits t) = halt
  steps before (K.Mark b) st st' at end at' end' d d' m s (digits t) = halt
  steps before k st st' at end at' end' d d' m s (done i) =
      mark-alike (Near k) Same k (λ b. pick-alike (Near k) Same (eqb b (code ",")) (emit refl) halt)

  -- the same items
  walk_same : {before : Kind} {ts ts' : List Token} → AlikeRow line line' true before ts ts' → walk line R.item ts ≡ walk line' R.item ts'
  unfolding walk
  walk_same r = result-same (walk-alike line line' R.item (step line) (step line') finish Near Same (λ k. item) ends steps r R.item R.item item)

  pub items-same : {before : Kind} {ts ts' : List Token} → AlikeRow line line' true before ts ts' → items_read line ts ≡ items_read line' ts'
  unfolding items_read
  items-same r = ap judged (walk_same r)

  pub cells_same : {before : Kind} {ts ts' : List Token} → AlikeRow line line' true before ts ts' → cells_from line ts ≡ cells_from line' ts'
  unfolding cells_from
  cells_same r = ap accepted_cells (walk_same r)
