-- definitions
pub mod Laws
