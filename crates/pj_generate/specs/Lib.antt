-- definitions
pub mod ClassFile
pub mod Projects
pub mod Source
