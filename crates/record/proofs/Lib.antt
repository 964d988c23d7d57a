-- Laws of the record; Top restates what the crate promises.
pub mod Texts
pub mod Outcomes
pub mod Tells
pub mod Examples
pub mod Top
