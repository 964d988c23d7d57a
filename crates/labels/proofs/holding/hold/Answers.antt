-- The rows get one label more, at the end of its chain.
use Prim.Native.Nat.{◌+◌}
use mathlib.Core.Path.{refl}
use native.Mathlib.Omega.{arith}
use lib.Seq.{lt-length-set}
use Rattle.labels.specs.Inner.Labels.{links_from}
use Rattle.labels.proofs.Laws.{key-small}
use Rattle.labels.proofs.Holds.{numbered, lt_numbered, chain_below, takes-word}
use Rattle.labels.proofs.holding.hold.Goals as goal

-- a short name's key fits a cell
pub overflow_cast-keys : goal.overflow_cast-keys
overflow_cast-keys c =
    let a = c.args in
    let small = key-small a.line.now a.start a.size c.requires.4 (omega (arith, c.shared_slice_known-1.given a.start)) in
    omega (arith, c.key-k.ensures, small)

pub bounds-keys-chain : goal.bounds-keys-chain
bounds-keys-chain c =
    let a = c.args in
    lt_numbered a.keys.now a.count _ _ (omega (arith, c.requires.0, c.requires.2, chain_below _ c.chain_of-chain.ensures))

pub bounds-keys-chain-2 : goal.bounds-keys-chain-2
bounds-keys-chain-2 c =
    let a = c.args in
    lt-length-set (numbered a.keys.now a.count _ _) (links_from + a.count) _
    (lt_numbered a.keys.now a.count _ _ (omega (arith, c.requires.2, chain_below _ c.chain_of-chain.ensures)))

pub returns : goal.returns
returns c =
    let a = c.args in
    let p = c.requires in
    takes-word a.starts.now a.keys.now a.line.now a.count a.place a.start a.size
    c.key-k.result c.chain_of-chain.result _ p.0 p.1 p.2 (omega (arith, c.shared_slice_known-1.given a.start))
    c.key-k.ensures c.chain_of-chain.ensures refl

pub overflow_cast-keys-2 : goal.overflow_cast-keys-2
overflow_cast-keys-2 c = omega (arith, chain_below _ c.chain_of-chain.ensures)

pub overflow_add-keys-2 : goal.overflow_add-keys-2
overflow_add-keys-2 c = omega (arith, chain_below _ c.chain_of-chain.ensures)

pub offset_bounds-keys-chain : goal.offset_bounds-keys-chain
offset_bounds-keys-chain c = omega (arith, chain_below _ c.chain_of-chain.ensures)

pub overflow_add-keys-5 : goal.overflow_add-keys-5
overflow_add-keys-5 c = omega (arith, chain_below _ c.chain_of-chain.ensures)

pub offset_bounds-keys-chain-2 : goal.offset_bounds-keys-chain-2
offset_bounds-keys-chain-2 c = omega (arith, chain_below _ c.chain_of-chain.ensures)
