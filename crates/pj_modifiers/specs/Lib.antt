-- definitions
pub mod Explicit
pub mod Implied
pub mod Sets
