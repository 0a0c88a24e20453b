-- definitions
pub mod Written
pub mod Reported
