-- Where in its line a refusal points (02, K4). Points.antt is the meaning, without a reader; Columns.antt the same as functions of the line.
pub mod Points
pub mod Columns
