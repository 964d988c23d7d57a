-- What the parts of `assemble` promise one another: reply, memory and map by a verdict.
use Rattle.std.specs.Prelude.{ℕ, List}
use Rattle.sources.specs.Placing.{Bound}
use Rattle.sources.specs.Uses.{Use}
use Rattle.sources.specs.Order.{Refusal}
use Rattle.columns.specs.declared.Pointed.{Pointed}
use Rattle.sources.specs.Inner.Pointing.{label_point, source_point}
use Rattle.sources.specs.Inner.Assembling.{Verdict, passes, refused, uses_verdict, filled, work_of, memory_of, source_verdict}
use Rattle.assembler.specs.Promise.{Told, told, acceptance, refusal}
use Rattle.assembler.specs.declared.Reply.{Reply}

-- a refusal's numbers, by where it points
abbrev pub refusal_at : Refusal → Pointed → Told
refusal_at why point = refusal why point.column.0 point.place

-- a reply with memory and map
pub record Outcome : Type 0 where
  pub reply : Told
  pub memory : List ℕ
  pub map : List ℕ

abbrev pub outcome : Reply → List ℕ → List ℕ → Outcome
outcome r memory map = record { reply = told r; memory = memory; map = map }

-- by a verdict and where it points: the image, or memory and map as they were
abbrev pub outcome_by : Verdict → Pointed → List ℕ → List ℕ → List ℕ → List ℕ → Outcome
outcome_by passes point image marks memory map = record { reply = acceptance marks; memory = image; map = marks }
outcome_by (refused why) point image marks memory map = record { reply = refusal_at why point; memory = memory; map = map }

-- where every line has passed: by the labels that operands name, among those that are bound
abbrev pub outcome_of_uses : List ℕ → List Bound → List Use → List ℕ → List ℕ → List ℕ → List ℕ → Outcome
outcome_of_uses source bs us cells marks memory map = outcome_by (uses_verdict bs us) (label_point source bs us) (filled bs us cells) marks memory map

-- where nothing is wrong with what is lent: by the source, over so many cells
abbrev pub outcome_of : ℕ → List ℕ → List ℕ → List ℕ → Outcome
outcome_of M source memory map =
    outcome_by (source_verdict M source) (source_point M source) (memory_of (work_of M source)) (work_of M source).place.marks memory map
