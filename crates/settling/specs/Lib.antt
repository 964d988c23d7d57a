-- Labels replaced by their words, in code: what the answers say.
pub mod Inner
