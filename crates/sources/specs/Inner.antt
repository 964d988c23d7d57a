-- The whole source as a function, the way the code goes. Nothing here has to be believed: `proofs/Top.antt` shows that it accepts and refuses
-- exactly as Order.antt, Pointing.antt and Image.antt say.
pub mod Assembling
pub mod Pointing
