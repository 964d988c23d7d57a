-- The source's end: the labels that still wait get the address there.
use Prim.Native.Nat.{ℕ, ◌+◌}
use mathlib.Core.Bool.{Bool, true, false, cond, ◌&&◌}
use mathlib.Core.List.{List, ◌++◌}
use mathlib.Core.Path.{◌≡◌, refl, sym, ap, ap₂, subst, ◌∙◌}
use native.Mathlib.Omega.{arith}
use lib.Dec.{ltb, leb}
use lib.ListN.{length, drop, length-drop}
use lib.Seq.{take_all}
use Rattle.codes.specs.declared.refusals.Refusal.{Refusal}
use Rattle.codes.specs.Refusals.{number}
use Rattle.codes.specs.Limits.{most_cells}
use Rattle.sources.specs.Placing.{Place, bound_to, bound_all, bindings}
use Rattle.sources.specs.Order.{◌on◌}
use Rattle.sources.specs.Inner.Assembling.{Verdict, passes, refused, first_of, and_then, Work, end_verdict}
use Rattle.sources.specs.declared.Gives.TheVariants.{Start}
use Rattle.sources.specs.declared.Line.{Line}
use Rattle.labels.specs.Inner.Labels.{words, zipped}
use Rattle.labels.proofs.Laws.{length-words}
use Rattle.placing.specs.Inner.State.{state_of, Fair, BindsFine}
use Rattle.placing.specs.declared.Counters.{Counters}
use Rattle.placing.proofs.PlaceLaws.{binds_fine}
use Rattle.walking.specs.Inner.Walking.{work_in, Says, Holds, Ends}
use Rattle.walking.specs.declared.Lines.{Lines}
use Rattle.std.proofs.Common.{Result, Ok, Err}
use Rattle.walking.specs.declared.Stopped.{Stopped}
use Rattle.walking.specs.declared.Stopped.TheVariants.{InLine, Late}
use Rattle.walking.specs.declared.Walked.{Walked}

bindings_of : (p : Place) → p.bound ++ bound_to p.at p.waiting ≡ bindings p
unfolding bindings
bindings_of p = refl

-- a line fails: nothing else stops the lines
pub early-stop : (v e : Verdict) (H : ℕ → ℕ → Type 0) (w : Work) (n : ℕ) (of : Counters → ℕ → Work) {r : Result Lines Stopped} {why : Stopped} → r ≡ Err why
    → Says v w n of r
    → Ends v e H (Err why)
early-stop v e H w n of {why = why} q h = go why (subst (Says v w n of) q h)
  where
    go : (x : Stopped) → Says v w n of (Err x) → Ends v e H (Err x)
    go (InLine f l) g = g
    go (Late l) g = absurd g

module _ (s starts keys vs ms memory row aways : List ℕ) (v : Verdict) (w : Work) (n : ℕ) {r : Result Lines Stopped} {c : Counters} {named : ℕ} {l : Line}
    (q : r ≡ Ok (record { counters = c; uses = named; last = l })) (h : Says v w n (work_in s starts keys vs ms memory row aways) r) where
  told : Says v w n (work_in s starts keys vs ms memory row aways) (Ok (record { counters = c; uses = named; last = l }))
  told = subst (Says v w n (work_in s starts keys vs ms memory row aways)) q h

  pub still-fair : Fair c
  still-fair = told.3

  abbrev held : List (List ℕ)
  held = words s starts keys (c.bound + c.waiting)

  all_there : length held ≡ c.bound + c.waiting
  all_there = length-words s starts keys (c.bound + c.waiting)

  end_by : {b : Bool} → b ≡ (ltb 0 c.waiting && leb most_cells c.at.0) → end_verdict n w.place ≡ cond b (refused (6 on n)) passes
  unfolding end_verdict first_of
  end_by e =
      let d : length (drop c.bound held) ≡ c.waiting = omega (arith, length-drop c.bound held, all_there) in
      ap (λ (x : Work). end_verdict n x.place) (sym told.1)
      ∙ ap (λ (b : Bool). cond b (refused (6 on n)) passes) (ap (λ (i : ℕ). ltb 0 i && leb most_cells c.at.0) d ∙ sym e)

  -- a label that waits would get 65,536
  pub refused-late : {b : Bool} → b ≡ (ltb 0 c.waiting && leb most_cells c.at.0) → b ≡ true
      → (v ≡ passes) × (end_verdict n w.place ≡ refused (6 on l.0))
  refused-late e t =
      (told.0, end_by e ∙ ap (λ (b : Bool). cond b (refused (6 on n)) passes) t ∙ ap (λ (i : ℕ). refused (6 on i)) (sym told.2))

  -- no label is late
  pub passes-end : {b : Bool} → b ≡ (ltb 0 c.waiting && leb most_cells c.at.0) → b ≡ false → and_then v (end_verdict n w.place) ≡ passes
  passes-end e t = ap₂ and_then told.0 (end_by e ∙ ap (λ (b : Bool). cond b (refused (6 on n)) passes) t)

  pub binds_at_end : {b : Bool} → b ≡ (ltb 0 c.waiting && leb most_cells c.at.0) → b ≡ false → BindsFine c Start
  binds_at_end e t = binds_fine c Start (sym e ∙ t)

  -- every label is bound, and the rows hold what the lines have come to
  pub all_held : (vs' : List ℕ) (d : Counters) → d.bound + d.waiting ≡ c.bound + c.waiting
      → ((ws : List (List ℕ)) (m : List ℕ) → length ws ≡ c.bound + c.waiting → state_of ws vs' m d ≡ bound_all c.at.0 (state_of ws vs m c))
      → Holds s starts keys vs' ms memory row aways w d.bound named
  all_held vs' d e g =
      let b = g held ms all_there in
      let z = ap (λ (p : Place). length p.waiting) b in
      let i : d.bound ≡ c.bound + c.waiting = omega (arith, length-drop d.bound held, all_there, z, e) in
      record {
        few = omega (arith, i, told.3.few);
        few-named = told.4;
        bound =
            ap (λ (k : ℕ). zipped (words s starts keys k) vs') i
            ∙ ap (λ (x : List (List ℕ)). zipped x vs') (sym (take_all d.bound held (omega (arith, i, all_there))))
            ∙ ap (λ (p : Place). p.bound) b
            ∙ bindings_of (state_of held vs ms c)
            ∙ ap (λ (x : Work). bindings x.place) told.1;
        marks = ap (λ (x : Work). x.place.marks) told.1;
        cells = ap (λ (x : Work). x.cells) told.1;
        uses = ap (λ (x : Work). x.uses) told.1;
      }

-- what the walk answers, of the verdict on lines and end together
module _ (v e : Verdict) (H : ℕ → ℕ → Type 0) {r : Result Walked Stopped} where
  pub walk_refused : {f : Refusal} {l : Line} → r ≡ Err (InLine f l) → Ends v e H r → and_then v e ≡ refused (number f on l.0)
  walk_refused q h = ap (λ (x : Verdict). and_then x e) (subst (Ends v e H) q h)

  pub walk-late : {l : Line} → r ≡ Err (Late l) → Ends v e H r → and_then v e ≡ refused (6 on l.0)
  walk-late q h = let t = subst (Ends v e H) q h in ap₂ and_then t.0 t.1
