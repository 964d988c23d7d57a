-- The decoder's reply decides; an instruction's words lie in memory (`encode_decode`), so their marks are there.
use native.Mathlib.Omega.{arith}
use mathlib.Core.Path.{sym, ◌∙◌}
use Rattle.isa.proofs.RoundTrip.{encode_decode}
use Rattle.listing.proofs.walking.code_at.Goals as goal

pub all_code-requires : goal.all_code-requires
all_code-requires c =
    let a = c.args in
    let r = encode_decode a.memory.now a.at _ _ (sym c.decode.ensures ∙ c.in-Ok.is) in
    (omega (arith, r.onward), omega (arith, r.within))
