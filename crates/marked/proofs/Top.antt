-- The marked table, proved: its rows of source by computing what the assembler as a function makes of each, which accepts exactly as the
-- rules do (`accepted-exactly` of the sources); its rows of arithmetic by computing them.
use Prim.Native.Nat.{ℕ, suc}
use Prim.Native.String.{String}
use mathlib.Core.List.{List}
use mathlib.Core.Path.{◌≡◌, refl, sym, ap, subst}
use lib.Count.{ones, ones_in}
use lib.ListN.{length}
use Rattle.arithmetic.specs.Cells.{leaves16}
use Rattle.arithmetic.specs.Flags.{flags_of}
use Rattle.arithmetic.specs.Operations.{outcome, ADD, SUB, MUL, DIV}
use Rattle.numerals.specs.Bytes.{bytes}
use Rattle.sources.specs.Image.{Accepted}
use Rattle.sources.specs.Inner.Assembling.{accepted, assemble_of}
use Rattle.sources.proofs.Computing.{computed_source}
use Rattle.sources.proofs.Top as sources
use Rattle.assembler.specs.Promise.{told, acceptance, Replies, accepts}
use Rattle.assembler.specs.declared.Reply.{Reply}
use Rattle.assembler.proofs.Top as assembler
use Rattle.marked.specs.Marked.{◌leaves◌marked◌, memory_with, map_with, MarkedTable}

-- what the assembler as a function accepts, the rules accept
accept : {M N : ℕ} {source memory marks : List ℕ} → assemble_of M N source ≡ accepted memory marks → Accepted M N source memory marks
accept {M} {N} {source} {memory} {marks} e = (sources.accepted-exactly M N source memory marks).0 e

-- "Table to prove, marked set"
pub marked : MarkedTable
unfolding computed_source ADD SUB MUL DIV outcome flags_of leaves16 ones ones_in
marked =
    record {
      expression = accept refl;
      memory-operand = accept refl;
      add = accept refl;
      move = accept refl;
      branch = accept refl;
      eight_cells = accept refl;
      sum_wraps = refl;
      sum_overflows = refl;
      difference_borrows = refl;
      product-wraps = refl;
      quotient_cuts = refl;
      quotient_overflows = refl;
    }

-- What `assemble` does with any row of source, whatever memory and map held: it accepts, and leaves exactly the row's cells.
pub assembled : (text : String) (cells : List ℕ) (mark : ℕ) → text leaves cells marked mark → {memory map memory' map' : List ℕ} {r : Reply}
    → length memory ≡ suc (length cells)
    → length map ≡ suc (length cells)
    → Replies (bytes text) memory map r memory' map'
    → (told r ≡ acceptance (map_with mark cells)) × (memory' ≡ memory_with cells) × (map' ≡ map_with mark cells)
assembled text cells mark row {memory} {map} p q reply =
    let there : Accepted (length memory) (length map) (bytes text) (memory_with cells) (map_with mark cells) =
    subst (λ (n : ℕ). Accepted (length memory) n (bytes text) (memory_with cells) (map_with mark cells)) (sym q)
    (subst (λ (n : ℕ). Accepted n (suc (length cells)) (bytes text) (memory_with cells) (map_with mark cells)) (sym p) row) in
    let this : Replies (bytes text) memory map (accepting (map_with mark cells)) (memory_with cells) (map_with mark cells) = accepts there refl in
    let same = assembler.one-reply reply this in
    (ap told same.0, same.1, same.2)
  where
    accepting : List ℕ → Reply
    accepting marks =
        let t = acceptance marks in
        record {
          refusal = t.number;
          line = record { 0 = t.line };
          column = record { 0 = t.column };
          place = t.place;
          code = t.code-cells;
          «data» = t.data_cells;
          reserved = t.reserved-cells;
        }
