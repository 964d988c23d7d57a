-- What the code's inner functions promise one another. Nothing here has to be believed: the promise of `instruction` does not cite it.
pub mod Peeks
