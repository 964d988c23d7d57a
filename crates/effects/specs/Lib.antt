-- What an instruction will do, found before anything is written (01, "What a step does"; manual 4 and 5). Read in this order.
pub mod Seen
pub mod Places
pub mod Conditions
pub mod Stack
pub mod Effects
pub mod Applied
pub mod Inner
