-- Laws of the definitions, by topic; Top.antt restates what the crate promises.
pub mod Labelling
pub mod Beginning
pub mod Ranges
pub mod Bodies
pub mod FirstFails
pub mod Judgements
pub mod Texts
pub mod Lines
pub mod Places
pub mod CellsGiven
pub mod Passing
pub mod Claims
pub mod Spacing
pub mod Computing
pub mod Examples
pub mod Top
