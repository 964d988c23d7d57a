-- An opcode's operands (01, "Rules of writing" and "Refusing a source"). Operands.antt is the rule, Reading.antt the reader as a
-- function, Checks.antt what is judged once the form is right, Settling.antt labels replaced by their values, Places.antt where
-- an operand and its number stand. Below `Inner`: what the code's inner functions promise.
pub mod Operands
pub mod Reading
pub mod Checks
pub mod Settling
pub mod Places
pub mod Inner
