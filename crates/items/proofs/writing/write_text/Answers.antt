-- A string gives its characters and a 0 cell (Writes.antt).
use Prim.Native.Nat.{◌+◌}
use native.Mathlib.Omega.{arith}
use Rattle.items.proofs.Measures.{quote_at, string-begins}
use Rattle.items.proofs.Writes.{text-written}
use Rattle.items.proofs.writing.write_text.Goals as goal

pub overflow_add-t : goal.overflow_add-t
overflow_add-t c = omega (arith, string-begins c.args.s.now c.args.from.at c.next_token-t.ensures c.in-Text.is)

pub write_string-requires : goal.write_string-requires
write_string-requires c = omega (arith, (quote_at c.args.s.now c.args.from.at c.next_token-t.ensures c.in-Text.is).after)

pub returns-in-Text : goal.returns-in-Text
returns-in-Text c =
    let a = c.args in
    text-written a.s.now a.from.at a.row.now (a.at + a.k) c.next_token-t.ensures c.in-Text.is c.write_string.ensures
