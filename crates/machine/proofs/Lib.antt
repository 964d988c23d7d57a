-- Laws of the machine, and the promises restated (Top).
pub mod GoodLoans
pub mod Outcomes
pub mod Standings
pub mod Orders
pub mod Kept
pub mod Completed
pub mod Ends
pub mod InputOutput
pub mod Runs
pub mod Counts
pub mod Answers
pub mod Fetching
pub mod Turns
pub mod Top
