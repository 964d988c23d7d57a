-- What the parts of `assemble` promise one another. Nothing here has to be believed: its promise, Promise.antt, does not cite it.
pub mod Parts
