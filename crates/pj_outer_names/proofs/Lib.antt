pub mod ByName
pub mod Inside
pub mod Turns
pub mod Enclosing
pub mod Listed
pub mod Looked
pub mod NameTurns
pub mod Ends
