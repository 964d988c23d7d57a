-- Laws of the definitions, by topic; Top.antt restates what the crate promises.
pub mod Displaced
pub mod Begins
pub mod Walks
pub mod Finds
pub mod Within
pub mod Spacing
pub mod Examples
pub mod Top
