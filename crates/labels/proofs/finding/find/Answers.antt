use Prim.Native.Nat.{◌+◌, ◌-◌}
use mathlib.Core.Path.{◌≡◌, sym, ap, ◌∙◌}
use native.Mathlib.Omega.{arith}
use lib.ListN.{get_or}
use Rattle.labels.specs.Inner.Labels.{window, onward, lasts_from, links_from}
use Rattle.labels.proofs.Laws.{chain_small}
use Rattle.labels.proofs.Walks.{onward-within, onward-below, no-word, walk-starts, walk_on, walk_ends}
use Rattle.labels.proofs.finding.find.Goals as goal
use Rattle.labels.proofs.finding.find.Goals.{then-is_named, else-is_named}

pub overflow_add-chain : goal.overflow_add-chain
overflow_add-chain c =
    let a = c.args in
    let small = chain_small (window a.line.now a.start a.size) in
    omega (arith, c.chain_of-chain.ensures, small)

pub loop-named-init : goal.loop-named-init
loop-named-init c =
    let a = c.args in
    let chain = c.chain_of-chain.result in
    let w = window a.line.now a.start a.size in
    let none = no-word a.line.now a.start a.size (omega (arith, c.shared_slice_known-4-1.given a.start)) in
    let last : c.onward-named.result ≡ onward a.keys.now chain a.count (get_or a.keys.now (lasts_from + chain) 0) =
    c.onward-named.ensures ∙ ap (onward a.keys.now chain a.count) c.cell.ensures in
    let small = onward-below a.keys.now chain a.count c.cell.result in
    let cell = c.shared_slice_known-3-1.given (lasts_from + chain) in (
      walk-starts a.s.now a.starts.now a.keys.now w a.count chain c.chain_of-chain.ensures none c.onward-named.result last,
      omega (arith, small, c.onward-named.ensures, c.cell.ensures, cell),
    )

pub loop-named-smaller : goal.loop-named-smaller
loop-named-smaller c =
    let a = c.args in
    let h = onward-within a.keys.now c.chain_of-chain.result (c.loop-named.named - 1) c.cell-in-loop-named.result in
    omega (arith, h, c.onward-named-in-loop-named.ensures, c.loop-named-test.true)

pub loop-named-preserved : goal.loop-named-preserved
loop-named-preserved c =
    let a = c.args in
    let i = c.loop-named.named - 1 in
    let q = c.chain_of-chain in
    let first = c.shared_slice_known-4-1.given a.start in
    let none = no-word a.line.now a.start a.size (omega (arith, first)) in
    let next : c.onward-named-in-loop-named.result ≡ onward a.keys.now q.result i (get_or a.keys.now (links_from + i) 0) =
    c.onward-named-in-loop-named.ensures ∙ ap (onward a.keys.now q.result i) c.cell-in-loop-named.ensures in
    let h = onward-within a.keys.now q.result i c.cell-in-loop-named.result in
    let walk = walk_on a.s.now a.starts.now a.keys.now (window a.line.now a.start a.size) a.count q.result
    q.ensures none c.loop-named.found c.loop-named.named c.loop-named-test.true c.loop-named.invariant.0 c.onward-named-in-loop-named.result next
    c.if-is_named.found in
    let named = sym c.is_named.ensures in (
      elim c.if-is_named.branch [
        | then-is_named w ↦ walk.0 (named ∙ w.if-is_named.true) w.found-is
        | else-is_named w ↦ walk.1 (named ∙ w.if-is_named.false) w.found-is
      ],
      omega (arith, h, c.onward-named-in-loop-named.ensures, c.loop-named.invariant.1),
    )

pub returns : goal.returns
returns c =
    let a = c.args in
    let w = window a.line.now a.start a.size in
    let chain = c.chain_of-chain.result in
    walk_ends a.s.now a.starts.now a.keys.now w a.count chain c.loop-named.found c.loop-named.named c.loop-named-test.false c.loop-named.invariant.0
