-- Laws that the proofs of this crate's functions cite, by topic.
pub mod CellLaws
pub mod ActLaws
pub mod NameLaws
pub mod TestLaws
pub mod PlaceLaws
pub mod LabelLaws
pub mod LineLaws
