-- Memory and map as source (02, K1). Pieces.antt and Lines.antt are the lines and how each is written, Runs.antt the runs of claimed
-- cells, Decodes.antt a code run's instructions, Listing.antt the lines of a memory and what `list` replies. Below `Inner`: the same as a
-- function, which the inner functions cite.
pub mod Pieces
pub mod Lines
pub mod Runs
pub mod Decodes
pub mod Listing
pub mod Inner
