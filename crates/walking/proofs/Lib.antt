-- Laws of the definitions, by topic.
pub mod Notes
pub mod Said
pub mod Words
pub mod Kept
pub mod Walks
pub mod Ends
