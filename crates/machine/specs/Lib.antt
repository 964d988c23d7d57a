-- The machine (01, "What a step does"). Read in this order.
pub mod States
pub mod Stops
pub mod Steps
pub mod Runs
pub mod Inner
