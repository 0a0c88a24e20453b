pub mod Deeper
pub mod Dots
pub mod Inside
pub mod Steps
pub mod Ends
