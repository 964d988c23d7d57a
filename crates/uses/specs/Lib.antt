-- The labels that operands name, as two lent rows hold them.
pub mod Inner
