-- How the code finds operands. Nothing here has to be believed: the promises of `step` and `run` do not cite it.
pub mod Located
