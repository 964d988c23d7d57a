-- The walk over a source's lines in code: what its rows stand for, and what its parts promise one another.
pub mod Inner
