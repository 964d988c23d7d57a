-- The rows are of zeros, as many as are lent; the map and the cells are the first M of theirs.
use native.Mathlib.Omega.{arith}
use Prim.Native.Nat.{ℕ}
use mathlib.Core.Path.{refl, sym, ap, ◌∙◌}
use lib.ListN.{length, length-replicate}
use Rattle.assembler.specs.Inner.Parts.{outcome_of}
use Rattle.assembler.proofs.Rows.{zeros-count, zeros-alone}
use Rattle.assembler.proofs.assemble.assemble_lent.Goals as goal

pub assemble_over-requires : goal.assemble_over-requires
assemble_over-requires c =
    let p = c.requires in
    let z = zeros-count 65536 (length c.args.memory.now) p.1 in
    let a = zeros-alone 65536 (length c.args.memory.now) p.1 in (
      record {
        short = p.0;
        rows = record { starts-long = refl; keys_long = refl; values_long = refl };
        few-cells = omega (arith, p.1, z);
        marks-empty = a;
        cells-empty = a;
        room =
            record { cells = omega (arith, length-replicate {A = ℕ} 131080 0); distances = omega (arith, length-replicate {A = ℕ} 32770 0) };
      },
      z,
      p.2 ∙ z,
    )

pub returns : goal.returns
returns c =
    let a = c.args in
    let z = zeros-count 65536 (length a.memory.now) c.requires.1 in
    c.assemble_over.ensures ∙ ap (λ (M : ℕ). outcome_of M a.s.now a.memory.now a.map.now) (sym z)
