-- The words that document 01 and the manual name, and how a word of a line is one of them.
pub mod Names
pub mod Inner
