-- definitions
pub mod Arithmetic
pub mod Bindings
pub mod Calls
pub mod Context
pub mod Denotes
pub mod Means
pub mod Operands
pub mod Parts
pub mod Sets
pub mod Steps
pub mod Turns
