-- Laws of the definitions, by topic; Top.antt restates what the crate promises.
pub mod Same
pub mod Packs
pub mod Places
pub mod Exactly
pub mod Own
pub mod Examples
pub mod Top
