-- A line of a source (01, "Rules of writing" and "Refusing a source"). Statements.antt is the rule, Checks.antt the list of a line's
-- checks with their numbers, over FirstFailing.antt, and Judging.antt what a reading comes to. Reading.antt is the reader as a function,
-- Cells.antt the cells of DATA as one. Below `Inner`: what the reader's parts promise one another.
pub mod Statements
pub mod FirstFailing
pub mod Checks
pub mod Judging
pub mod Reading
pub mod Cells
pub mod Inner
