-- Where wrong form shows in a line (02, K4). Faults.antt is the meaning, without a reader; Forms.antt and Walk.antt the walk that finds it.
-- Below `Inner`: what the parts of the code promise one another.
pub mod Faults
pub mod Forms
pub mod Walk
pub mod Inner
