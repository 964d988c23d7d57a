-- Which M the programs take, what they tell of a refusal, and what putting text promises.
pub mod Sizes
pub mod Refusals
pub mod Excerpts
pub mod Putting
pub mod Failures
