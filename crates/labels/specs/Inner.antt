-- What the inner functions promise one another. Nothing here has to be believed: the promise of `assemble` does not cite it.
pub mod Labels
