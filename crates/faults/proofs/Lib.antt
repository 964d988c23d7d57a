-- Laws by topic; Top.antt restates what is shown.
pub mod Tokens
pub mod Gone
pub mod Lexing
pub mod Readings
pub mod GoesOn
pub mod Places
pub mod Opening
pub mod Turns
pub mod Tests
pub mod Examples
pub mod Top
