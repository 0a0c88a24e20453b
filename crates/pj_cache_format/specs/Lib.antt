-- definitions
pub mod Judges
pub mod Answers
pub mod FormatTwo
pub mod Texts
pub mod Fitting
pub mod TextTwo
pub mod Ordered
pub mod Decoded
