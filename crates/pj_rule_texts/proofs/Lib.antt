pub mod Numerals
pub mod Slashes
pub mod Spacing
pub mod Steps
pub mod FileReading
