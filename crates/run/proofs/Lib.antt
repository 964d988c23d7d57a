-- Laws of the budget's word; Examples computes; Top restates what the program promises.
pub mod Budgets
pub mod Examples
pub mod Top
