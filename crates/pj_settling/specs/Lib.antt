-- definitions
pub mod Settling
