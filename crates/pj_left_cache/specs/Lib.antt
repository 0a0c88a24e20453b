-- definitions
pub mod Missing
pub mod Said
pub mod Leaving
pub mod Bytes
