-- What the inner functions promise one another. Nothing here has to be believed: the promises of `step` and `run` cite Steps.antt and Runs.antt alone.
pub mod Lent
