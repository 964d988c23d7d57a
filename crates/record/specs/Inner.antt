-- What the functions that write a record promise one another. Nothing here has to be believed: no promise to a host or a program cites it.
pub mod Cells
