-- Top.antt: the marked table proved, and what `assemble` does with its rows of source.
pub mod Top
