-- A whole source (01, "Rules of writing", "Layout", "Refusing a source"). Sources.antt is its reading, Placing.antt what each statement
-- does to address, labels and map, Uses.antt the labels that operands name, Order.antt the list of checks and the first that fails,
-- Pointing.antt where that one points, Image.antt the cells that an accepted source leaves, BeforeK4.antt the list of checks as it was
-- before K4. Below `Inner`: the same as a function, which the inner functions of the crates above cite; `proofs/Top.antt` shows that it
-- accepts and refuses exactly as Order.antt, Pointing.antt and Image.antt say.
pub mod Sources
pub mod Placing
pub mod Uses
pub mod Order
pub mod Pointing
pub mod Image
pub mod BeforeK4
pub mod Inner
