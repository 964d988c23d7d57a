-- What the code's inner functions promise one another. Nothing here has to be believed: the promises of `items` and `write_cells` do not cite it.
pub mod Turns
