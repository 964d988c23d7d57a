-- Laws of listings. The text of a line; the runs and their instructions; the walk from address to address; the reply.
pub mod Letters
pub mod Texts
pub mod Covered
pub mod Decoded
pub mod Exactly
pub mod Cleared
pub mod Reserved
pub mod Walks
pub mod Loops
pub mod Outcomes
pub mod Examples
pub mod Top
