-- Laws of the definitions, by topic.
pub mod Laws
