-- Laws of the definitions, by topic; Top.antt restates what the crate promises.
pub mod Ranks
pub mod SameReads
pub mod Runs
pub mod Worths
pub mod Cells
pub mod Radixes
pub mod Readers
pub mod Numbers
pub mod Filling
pub mod Decimals
pub mod RoundTrips
pub mod Examples
pub mod Top
