-- A line at its place, in code: what its state stands for, and what each part of it answers.
pub mod Inner
