-- The registers as an instruction's operands see them (01, "What a step does").
use Rattle.std.specs.Prelude.{ℕ, ◌%◌, cond, List, eqb, get_or}
use Rattle.codes.specs.Registers.{PC}

-- "Operands see PC after the instruction, modulo 65536": `next` is the address after it, not reduced
unfoldable pub see : List ℕ → ℕ → ℕ → ℕ
see r next code = cond (eqb code PC) (next % 65536) (get_or r code 0)
