-- definitions
pub mod Right
pub mod Left
pub mod Looked
pub mod Fits
