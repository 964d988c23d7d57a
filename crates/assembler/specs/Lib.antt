-- Promise.antt is what `assemble` promises; BeforeK4.antt what it promised before K4. Below `Inner`: what its parts promise one another.
pub mod Promise
pub mod BeforeK4
pub mod Inner
