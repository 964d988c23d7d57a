-- What ENS2025 computes of cells (01, "What a step does"; manual 3 and 5.3 to 5.5). Read in this order.
pub mod Cells
pub mod Flags
pub mod Operations
