-- Lines and tokens (01, "Rules of writing"), set down without a reader. Read in this order; the readers as functions come last.
pub mod Lines
pub mod Bytes
pub mod Words
pub mod Strings
pub mod Rows
pub mod Marks
pub mod Reading
pub mod Commas
