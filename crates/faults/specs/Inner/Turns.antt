-- One byte of the code's walk over a line: the word that a stage is in stands from where it began up to here.
use Rattle.std.specs.Prelude.{ℕ, ◌+◌, ◌≤◌, cond, ◌&&◌, List, ◌≡◌, length, drop}
use Prim.Native.Char.{code}
use Rattle.std.proofs.Math.Seq.{slice}
use Rattle.tokens.specs.Bytes.{is_semicolon}
use Rattle.faults.specs.Walk.{Lex, step, live, place_from}
use Rattle.faults.specs.Inner.Stages.{spelt, opens_in}
use Rattle.faults.specs.declared.Stage.{Stage}
use Rattle.faults.specs.declared.Walk.{Walk}
use Rattle.std.specs.Prelude.{Result, Ok, Err}

module _ (line : List ℕ) where
  abbrev pub lex_at : Stage → ℕ → ℕ → Lex
  lex_at x began at = spelt x (slice began at line)

  -- the fault's place, from here on
  abbrev pub place_at : Stage → ℕ → ℕ → ℕ
  place_at x began at = place_from (length line) (lex_at x began at) began at (drop at line)

  -- where the walk stops at a byte
  abbrev pub stops_at : Stage → ℕ → ℕ → ℕ → ℕ
  stops_at x began at b = cond (is_semicolon b && live (step (lex_at x began at) (code " "))) (length line) at

  -- a byte more leaves the fault's place as it is, and opens one parenthesis at most
  abbrev pub Turned : Stage → ℕ → ℕ → Result Walk ℕ → Type 0
  Turned x began at (Ok w) =
      (place_at x began at ≡ place_at w.stage w.began (at + 1)) × (w.began ≤ at) × (opens_in (lex_at w.stage w.began (at + 1)) ≤ at + 1)
  Turned x began at (Err p) = place_at x began at ≡ p
