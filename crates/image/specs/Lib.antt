-- The printed image (01, "The printed image"): Image.antt is the text, Printing.antt what printing answers and leaves in the room.
-- Below `Inner`: what the inner functions promise one another.
pub mod Image
pub mod Printing
pub mod Inner
