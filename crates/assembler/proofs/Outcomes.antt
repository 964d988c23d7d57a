-- Reply, memory and map by what the parts answer.
use Prim.Native.Nat.{ℕ}
use mathlib.Core.Bool.{Bool}
use mathlib.Core.List.{List}
use mathlib.Core.Path.{◌≡◌, sym, ap₂, subst, ◌∙◌}
use Rattle.codes.specs.declared.refusals.Refusal.{Refusal}
use Rattle.codes.specs.Refusals.{number}
use Rattle.codes.specs.Marks.{code_mark, data_mark, reserved_mark}
use Rattle.sources.specs.Order.{◌on◌}
use Rattle.sources.specs.Image.{cells_marked}
use Rattle.columns.specs.Columns.{line_numbered, name_column}
use Rattle.columns.specs.declared.Pointed.{Pointed}
use Rattle.sources.specs.Inner.Assembling.{Verdict, passes, refused}
use Rattle.sources.specs.Inner.Pointing.{nowhere, label_point_by}
use Rattle.sources.specs.declared.Line.{Line}
use Rattle.settling.specs.Inner.Settling.{Settles}
use Rattle.std.proofs.Common.{Result, Ok, Err}
use Rattle.settling.specs.declared.Unsettled.{Unsettled}
use Rattle.assembler.specs.Promise.{Told, refusal}
use Rattle.assembler.specs.Inner.Parts.{refusal_at, Outcome, outcome_by}

module _ (memory map : List ℕ) where
  abbrev pub with : Told → List ℕ → List ℕ → Outcome
  with t m k = record { reply = t; memory = m; map = k }

  -- memory and map are copies, and the counts those of the map
  pub accepted_as : (c d r : ℕ) (m k image marks : List ℕ) → c ≡ cells_marked code_mark marks → d ≡ cells_marked data_mark marks
      → r ≡ cells_marked reserved_mark marks
      → m ≡ image
      → k ≡ marks
      → with (record { number = 0; line = 0; column = 0; place = 0; code-cells = c; data_cells = d; reserved-cells = r }) m k
      ≡ outcome_by passes nowhere image marks memory map
  accepted_as c d r m k image marks e f i g h = rw (e, f, i, g, h)

  -- a refusal leaves both as they were
  pub refused_as : (t : Told) (f : ℕ) (l : Line) (v : Verdict) (p : Pointed) (image marks : List ℕ) → t ≡ refusal_at (f on l.0) p
      → v ≡ refused (f on l.0)
      → with t memory map ≡ outcome_by v p image marks memory map
  refused_as t f l v p image marks e g = rw (e, g)

  -- a label is refused: where it points is found by the line, read once more, and by whether it is the line's second
  pub not-settled : (source : List ℕ) (r : Result Unit Unsettled) (f : Refusal) (l : Line) (second : Bool) (v : Verdict) (b : Bool) (image cells marks : List ℕ) (column : ℕ)
      (t : Told)
      → r ≡ Err (record { refusal = f; line = l; second = second })
      → Settles v b image cells r
      → column ≡ name_column (line_numbered source l.0) (number f) second
      → t ≡ refusal (number f on l.0) column 0
      → with t memory map ≡ outcome_by v (label_point_by source b v) image marks memory map
  not-settled source r f l second v b image cells marks column t e s h g =
      let x = subst (Settles v b image cells) e s in
      rw (g, h, x.1, x.0)

  pub all_settled : (r : Result Unit Unsettled) (v : Verdict) (b : Bool) (p : Pointed) (image cells marks : List ℕ) (o : Outcome) → r ≡ Ok tt → Settles v b image cells r
      → o ≡ outcome_by passes nowhere cells marks memory map
      → o ≡ outcome_by v p image marks memory map
  all_settled r v b p image cells marks o e s g =
      let h = subst (Settles v b image cells) e s in
      g ∙ ap₂ (λ (w : Verdict) (m : List ℕ). outcome_by w p m marks memory map) (sym h.0) h.1
