-- Laws of what is told of a failure and of a refusal, and of the line shown; Examples computes; Top restates what the crate promises.
pub mod Failures
pub mod Told
pub mod Shown
pub mod Examples
pub mod Top
