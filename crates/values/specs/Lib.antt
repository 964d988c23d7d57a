-- The values of operands and DATA (01, "Rules of writing"). Read in this order; the readers as functions come last.
pub mod Values
pub mod Ranges
pub mod Reading
pub mod Walks
