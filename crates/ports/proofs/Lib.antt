-- Laws, for crates above too; Top restates what the crate promises.
pub mod Overwrites
pub mod Searches
pub mod Outcomes
pub mod Laws
pub mod Rules
pub mod Examples
pub mod Top
