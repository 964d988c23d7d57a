-- Laws of the instruction set, for this crate's proofs and those above it.
pub mod Tests
pub mod Past
pub mod Numbers
pub mod Modes
pub mod FirstWords
pub mod Refusals
pub mod Words
pub mod RoundTrip
pub mod Top
