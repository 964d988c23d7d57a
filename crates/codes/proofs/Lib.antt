-- Top.antt: the paper's rows of numbers, once more as they stand there.
pub mod Top
