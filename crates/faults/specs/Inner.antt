-- What the parts of the code promise one another.
pub mod Stages
pub mod Turns
