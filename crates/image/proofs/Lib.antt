-- Laws of the text and of writing it; Top restates what the crate promises.
pub mod Texts
pub mod CellLines
pub mod Rooms
pub mod Outcomes
pub mod Examples
pub mod Top
