-- Laws of text and of writing it, for the crates that print.
pub mod Texts
pub mod Rooms
