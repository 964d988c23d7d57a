-- Laws, by topic. The text side, each line says what it lists: Pieces (what is written is what is read), Names, Operands, Said, Entries.
pub mod Pieces
pub mod Names
pub mod Operands
pub mod Said
pub mod Entries
-- The memory side, the lines agree with memory and map: Placed, Listed, Always; Back joins both, and Top restates it for a reader.
pub mod Placed
pub mod Listed
pub mod Always
pub mod Back
pub mod Examples
pub mod Top
