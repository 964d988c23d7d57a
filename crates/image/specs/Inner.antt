-- What the inner functions promise one another. Nothing here has to be believed: the promise of `print` cites Printing.antt, Image.antt and the lines of `texts`.
pub mod Pieces
