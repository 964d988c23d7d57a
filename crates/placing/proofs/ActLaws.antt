-- What a statement does, row by row.
use Prim.Native.Nat.{ℕ, suc, ◌+◌, ◌≤◌}
use mathlib.Core.Path.{◌≡◌, sym, ap, subst, ◌∙◌}
use native.Mathlib.Omega.{arith}
use Rattle.isa.specs.Opcodes.{table, present_in, count_of}
use Rattle.isa.specs.declared.Kinds.{Kinds}
use Rattle.isa.specs.declared.Kinds.TheVariants as K
use Rattle.isa.specs.declared.Opcode.{Opcode}
use Rattle.operands.specs.declared.Given.{Given}
use Rattle.statements.specs.declared.Statement.{Statement}
use Rattle.statements.specs.declared.Statement.TheVariants.{Instruction}
use Rattle.sources.specs.Placing.{does}
use Rattle.sources.specs.declared.Act.{Act}
use Rattle.sources.specs.declared.Gives.TheVariants.{Start}
use Rattle.sources.specs.declared.Moves.TheVariants.{On}
use Rattle.placing.specs.Inner.State.{Sound}

-- an opcode has two operands at most
present-small : (k : Kinds) → present_in k ≤ 1
present-small K.Nothing = omega arith
present-small K.Source = omega arith
present-small K.Destination = omega arith
present-small K.Place = omega arith
present-small K.Target = omega arith

pub count_small : (op : Opcode) → count_of op ≤ 2
unfolding count_of
count_small op = omega (arith, present-small (table op).first, present-small (table op).second)

-- an answer that is a statement's row, and sound as that row is
pub row_of : {r a : Act} {s t : Statement} → r ≡ a → s ≡ t → a ≡ does t → Sound a.moves a.claims
    → (r ≡ does s) × Sound r.moves r.claims
row_of e f g h = (e ∙ g ∙ sym (ap does f), subst (λ (x : Act). Sound x.moves x.claims) (sym e) h)

-- an instruction's row
pub instruction-row : (op : Opcode) (a b : Given) {n : ℕ} → n ≡ count_of op
    → record { gives = Start; moves = On (n + 1); claims = n + 1; mark = 1 } ≡ does (Instruction op a b)
unfolding does
instruction-row op a b {n} e = let q : n + 1 ≡ suc (count_of op) = omega arith in ap (λ (x : ℕ). instruct x) q
  where
    instruct : ℕ → Act
    instruct x = record { gives = Start; moves = On x; claims = x; mark = 1 }
