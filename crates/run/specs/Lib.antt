-- The program's own rule: which budget it takes.
pub mod Budgets
