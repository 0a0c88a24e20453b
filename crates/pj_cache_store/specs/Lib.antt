-- definitions
pub mod Loading
pub mod Leaving
