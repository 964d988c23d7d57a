-- Expressions (01, "Rules of writing": "Expression: `+ - * / %` with usual precedence, left to right; an operand is a number or
-- an expression in parentheses. Numbers here are 0..65535 with no `-` ..; no labels. Intermediates are exact, within a signed
-- 32-bit range. Division cuts toward zero; the remainder has the dividend's sign."). Read in this order.
pub mod Operations
pub mod Grammar
pub mod Trees
pub mod Worths
pub mod Reading
pub mod Places
pub mod Inner
