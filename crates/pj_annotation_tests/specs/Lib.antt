-- definitions
pub mod Annotations
