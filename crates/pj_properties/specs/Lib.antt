-- definitions
pub mod Flags
pub mod Literals
pub mod Numbers
pub mod OneFile
pub mod Parentheses
pub mod Texts
