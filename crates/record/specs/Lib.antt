-- The record of a run: Record.antt is the text, Recording.antt what writing it answers and leaves in the room. Below `Inner`: what the
-- inner functions promise one another.
pub mod Record
pub mod Recording
pub mod Inner
