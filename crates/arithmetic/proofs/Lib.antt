-- What several proofs cite (Readings, Residues), what crates above may cite (Laws), and the promises restated (Top).
pub mod Readings
pub mod Residues
pub mod Laws
pub mod Top
