-- Laws of the definitions, by topic; Top.antt restates what the crate promises.
pub mod Rows
pub mod Outcomes
pub mod Walks
pub mod Promised
pub mod BeforeK4
pub mod Top
