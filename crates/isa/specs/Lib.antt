-- The instruction set (01, "Layout"; manual 4, 5 and 9). Read in this order.
pub mod Opcodes
pub mod Operands
pub mod Encoding
pub mod Decoding
pub mod Inner
