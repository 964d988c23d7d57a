-- Document 01's marked table, whole and in one place.
pub mod Marked
