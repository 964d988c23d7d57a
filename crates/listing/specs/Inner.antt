-- The listing as a function, the way the code goes. Nothing here has to be believed: `proofs/Top.antt` shows that it answers exactly as
-- Listing.antt says.
pub mod Walk
pub mod Begins
pub mod Letters
