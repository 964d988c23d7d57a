-- DATA's items (01, "Rules of writing"). Items.antt is the rule, Reading.antt the reader as a function, Writing.antt has the
-- cells that are written, Places.antt where the first number out of range stands. Below `Inner`: a turn of the reader's loop, and of the writer's.
pub mod Items
pub mod Reading
pub mod Writing
pub mod Places
pub mod Inner
