-- definitions
pub mod Words
pub mod Annotation
pub mod Marks
