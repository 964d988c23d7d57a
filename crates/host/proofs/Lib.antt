-- The host's step and run: the promises restated (Top).
pub mod Runs
pub mod Top
