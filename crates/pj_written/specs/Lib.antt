-- definitions
pub mod Words
pub mod Names
pub mod Types
pub mod Fits
pub mod Written
pub mod Headers
pub mod Flags
pub mod Spelling
pub mod Seen
