-- definitions
pub mod Front
pub mod WordTable
