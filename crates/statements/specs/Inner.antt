-- What the reader's parts promise one another. Nothing here has to be believed: `proofs/Top.antt` shows that the reader follows the rule.
pub mod Parts
