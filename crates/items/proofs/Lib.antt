-- Laws of the definitions, by topic; Top.antt restates what the crate promises.
pub mod Counts
pub mod Measures
pub mod Walks
pub mod Readings
pub mod Bounds
pub mod Verdicts
pub mod Numbers
pub mod Writes
pub mod Small
pub mod Located
pub mod Spacing
pub mod Examples
pub mod Top
