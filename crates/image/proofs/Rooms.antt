-- Writing the cells one behind the other is writing their text at once.
use mathlib.Core.Path.{◌≡◌, refl, sym, ap, ◌∙◌}
use mathlib.Core.List.{List, ◌++◌}
use Prim.Native.Nat.{ℕ, ◌+◌, ◌≤◌, ◌<◌}
use native.Mathlib.Omega.{arith}
use lib.ListN.{length, get_or}
use Rattle.ports.specs.Overwriting.{overwrite}
use Rattle.ports.proofs.Overwrites.{overwrite-none}
use Rattle.texts.specs.Lines.{text_of}
use Rattle.texts.specs.Inner.Wrote.{Wrote}
use Rattle.texts.proofs.Texts.{text_append}
use Rattle.texts.proofs.Rooms.{overwrite_on, wrote_on}
use Rattle.image.specs.Image.{cell_lines, claimed, head_lines, image_text}
use Rattle.image.specs.Inner.Pieces.{piece, cells_text}
use Rattle.image.proofs.Texts.{left, left-more, left-none, left-length}

-- a room after the loop that writes the cells has come to one, with the place behind what is written: the rest still has to be written
abbrev pub Writing : List ℕ → ℕ → List ℕ → List ℕ → List ℕ → ℕ → ℕ → Type 0
Writing xs from memory marks room at i =
    (length room ≡ length xs)
    × (at + length (left memory marks i) ≡ from + length (cells_text memory marks))
    × (overwrite room at (left memory marks i) ≡ overwrite xs from (cells_text memory marks))

module _ (xs : List ℕ) (from : ℕ) (memory marks : List ℕ) where
  pub writing_more : (room : List ℕ) (at i : ℕ) {after : List ℕ} {next : ℕ} → Writing xs from memory marks room at i → i < length marks
      → from + length (cells_text memory marks) ≤ length xs → Wrote room at (piece i (get_or marks i 0) (get_or memory i 0)) after next
      → length after ≡ length room → Writing xs from memory marks after next (i + 1)
  writing_more room at i {after} {next} inv h fits w l =
      let p = piece i (get_or marks i 0) (get_or memory i 0) in
      let more = left-length memory marks i h in
      let on = overwrite_on room at p (left memory marks (i + 1)) (omega arith) in
      let here : overwrite room at (p ++ left memory marks (i + 1)) ≡ overwrite xs from (cells_text memory marks) = rw
      (left-more memory marks i h) at inv.2 in
      (l ∙ inv.0, omega arith, rw (w.1, w.0) (on ∙ here))

  pub writing-end : (room : List ℕ) (at i : ℕ) → Writing xs from memory marks room at i → length marks ≤ i
      → room ≡ overwrite xs from (cells_text memory marks)
  writing-end room at i inv h = sym (overwrite-none room at) ∙ (rw (left-none memory marks i h) at inv.2)

-- the lines before the cells, then the cells behind them
pub wrote_image : (xs memory marks : List ℕ) {mid after : List ℕ} {at : ℕ}
    → Wrote xs 0 (text_of (head_lines (length memory) (claimed marks))) mid at
    → after ≡ overwrite mid at (cells_text memory marks)
    → after ≡ overwrite xs 0 (image_text memory marks)
wrote_image xs memory marks w e =
    let both = wrote_on xs 0 (text_of (head_lines (length memory) (claimed marks))) (cells_text memory marks) (omega arith) w (refl, e) in
    both.1 ∙ ap (overwrite xs 0) (sym (text_append (head_lines (length memory) (claimed marks)) (cell_lines memory 0 marks)))
