-- Document 01's numbers, each named once. Every crate that needs one takes its name from here.
pub mod Registers
pub mod Flags
pub mod Stops
pub mod Marks
pub mod Limits
pub mod Refusals
