use mathlib.Core.Path.{◌∙◌, sym}
use Rattle.labels.proofs.Laws.{onward-none, onward-out, onward-other, onward-here}
use Rattle.labels.proofs.chains.onward.Goals as goal
use Rattle.labels.proofs.chains.onward.Goals.{else-named-ne0-via-then-named-ne0+then-named-n+else-cell-chain, else-named-ne0-via-then-named-ne0+else-named-n, else-named-ne0-via-else-named-ne0}

pub returns-then-cell-chain : goal.returns-then-cell-chain
returns-then-cell-chain c =
    let a = c.args in
    onward-here a.keys.now a.chain a.n a.named c.if-named-n.true (sym c.cell.ensures ∙ c.if-cell-chain.true)

pub returns : goal.returns
returns c =
    let a = c.args in
    elim c.else-named-ne0.branch [
      | else-named-ne0-via-then-named-ne0+then-named-n+else-cell-chain w ↦ onward-other a.keys.now a.chain a.n a.named (λ e. w.if-cell-chain.false (w.cell.ensures ∙ e))
      | else-named-ne0-via-then-named-ne0+else-named-n w ↦ onward-out a.keys.now a.chain a.n a.named w.if-named-n.false
      | else-named-ne0-via-else-named-ne0 w ↦ onward-none a.keys.now a.chain a.n a.named w.if-named-ne0.false
    ]
