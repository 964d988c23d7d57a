-- What several proofs cite (Forms), how operands are found and what comes of them (Locating, Performing), what crates above may cite of writing an effect (Laws)
-- and of what an instruction can come to (Outcomes), and the promises restated (Top).
pub mod Forms
pub mod Locating
pub mod Performing
pub mod Laws
pub mod Outcomes
pub mod Top
