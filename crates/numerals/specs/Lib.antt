-- Numbers as text (01, "Rules of writing", the line "Number", and "What a step does", ININT and WRINT). Read in this order.
pub mod Bytes
pub mod Digits
pub mod Numbers
pub mod Reading
pub mod Writing
