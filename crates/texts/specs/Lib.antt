-- Text in a room: Lines.antt has what lines are. Below `Inner`: what the functions that write promise.
pub mod Lines
pub mod Inner
