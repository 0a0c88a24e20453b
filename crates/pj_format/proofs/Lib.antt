pub mod Laws
pub mod Spelling
pub mod Loops
pub mod Parts
