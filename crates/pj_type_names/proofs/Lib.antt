pub mod Ends
pub mod Inside
pub mod Turns
pub mod Expanded
pub mod Deep
