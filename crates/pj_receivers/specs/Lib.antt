-- definitions
pub mod Receivers
pub mod Fields
pub mod Elements
