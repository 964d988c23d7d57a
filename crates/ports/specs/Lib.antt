-- Input and output on lent bytes and cells (01, "What a step does", INCHAR to WRSTR; manual 5.8). Read in this order.
pub mod Overwriting
pub mod Searching
pub mod Input
pub mod Output
pub mod Rules
