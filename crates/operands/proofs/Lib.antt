-- Laws of the definitions, by topic; Top.antt restates what the crate promises.
pub mod Readings
pub mod Turns
pub mod Outcomes
pub mod Lists
pub mod Judged
pub mod Exactly
pub mod Settled
pub mod Back
pub mod Encodes
pub mod Within
pub mod Located
pub mod Spacing
pub mod Examples
pub mod Top
