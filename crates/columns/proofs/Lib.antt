-- Laws by topic; Top.antt restates what is shown.
pub mod Found
pub mod LineStarts
pub mod Bounds
pub mod Exactly
pub mod Refused
pub mod Named
pub mod Marked
pub mod Marks
pub mod Examples
pub mod Top
