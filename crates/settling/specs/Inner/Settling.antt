-- What the answers say, as verdicts and cells (sources/specs/Inner/Assembling.antt).
use Rattle.std.specs.Prelude.{ℕ, Bool, true, false, List, ◌≡◌}
use Rattle.sources.specs.Placing.{Bound}
use Rattle.sources.specs.Uses.{Value, known, unknown, value_of, from, Use, counted_word}
use Rattle.sources.specs.Order.{◌on◌}
use Rattle.sources.specs.Inner.Assembling.{Verdict, passes, refused, too_far, use_verdict, uses_verdict, second_refused, filled}
use Rattle.labels.specs.Inner.Labels.{window}
use Rattle.uses.specs.Inner.Held.{counted_by, use_held}
use Rattle.std.specs.Prelude.{Result, Ok, Err}
use Rattle.codes.specs.Refusals.{number}
use Rattle.codes.specs.declared.refusals.Refusal.{Refusal}
use Rattle.codes.specs.declared.refusals.Refusal.TheVariants.{UnknownLabel, FarLabel}
use Rattle.settling.specs.declared.Unsettled.{Unsettled}

-- a label's value as code finds it: 13 where there is none
abbrev pub Finds : Value → Result ℕ Refusal → Type 0
Finds v (Ok x) = v ≡ known x
Finds v (Err f) = (v ≡ unknown) × (f ≡ UnknownLabel)

-- a label's word, and the verdict on it
abbrev pub Tells : (ℕ → Verdict) → ℕ → Result ℕ Refusal → Type 0
Tells verdict word (Ok x) = ((k : ℕ) → verdict k ≡ passes) × (x ≡ word)
Tells verdict word (Err f) = (k : ℕ) → verdict k ≡ refused (number f on k)

-- of a label that stands at a place of the source and is to fill a cell
abbrev pub TellsUse : List Bound → List ℕ → ℕ → ℕ → ℕ → ℕ → Result ℕ Refusal → Type 0
TellsUse bs s start size cell away r =
    Tells (λ k. use_verdict bs (use_held s start size cell k away)) (counted_word (counted_by cell away) (value_of bs (window s start size))) r

-- all of them
abbrev pub Settles : Verdict → Bool → List ℕ → List ℕ → Result Unit Unsettled → Type 0
Settles v second filled cells (Ok tt) = (v ≡ passes) × (cells ≡ filled)
Settles v second filled cells (Err r) = (v ≡ refused (number r.refusal on r.line.0)) × (r.second ≡ second)

-- these labels, among those that are bound, each in its cell
abbrev pub SettlesUses : List Bound → List Use → List ℕ → List ℕ → Result Unit Unsettled → Type 0
SettlesUses bs us cells cells' r = Settles (uses_verdict bs us) (second_refused 0 bs us) (filled bs us cells) cells' r

-- a value counted from an address, or 14
abbrev pub Reaches : ℕ → ℕ → Result ℕ Refusal → Type 0
Reaches v next (Ok x) = (too_far (from next) (known v) ≡ false) × (x ≡ counted_word (from next) (known v))
Reaches v next (Err f) = (too_far (from next) (known v) ≡ true) × (f ≡ FarLabel)
