-- How the code looks a name up. Nothing here has to be believed: `proofs/Top.antt` shows that a word is found exactly where it is that name.
pub mod Packing
