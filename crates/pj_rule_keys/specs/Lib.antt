-- definitions
pub mod Keys
pub mod OldTexts
