-- The mark decides: one law for each way out.
use Rattle.listing.proofs.Walks.{begins-free, begins-code, begins-reserved, begins_data}
use Rattle.listing.proofs.walking.begins_at.Goals as goal

pub returns-then-mark-eq-FREE : goal.returns-then-mark-eq-FREE
returns-then-mark-eq-FREE c = begins-free _ _ _ c.if-mark-eq-FREE.true

pub returns-then-mark-eq-CODE : goal.returns-then-mark-eq-CODE
returns-then-mark-eq-CODE c = begins-code _ _ _ c.if-mark-eq-FREE.false c.if-mark-eq-CODE.true c.code_at.ensures

pub returns-then-mark-eq-RESERVED : goal.returns-then-mark-eq-RESERVED
returns-then-mark-eq-RESERVED c = begins-reserved _ _ _ c.if-mark-eq-RESERVED.true c.reserved_at.ensures

pub returns : goal.returns
returns c = begins_data _ _ _ c.if-mark-eq-FREE.false c.if-mark-eq-CODE.false c.if-mark-eq-RESERVED.false
