-- The scan for form and the parts of the reader, as functions. Nothing here has to be believed: `proofs/Top.antt` shows that the reader follows
-- the grammar.
pub mod Scanning
pub mod Parts
