-- definitions
pub mod Scopes
pub mod Frames
pub mod Going
