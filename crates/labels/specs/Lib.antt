-- The labels of a source, as the lent rows hold them.
pub mod Inner
