-- definitions
pub mod Below
