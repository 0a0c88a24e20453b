-- definitions
pub mod Types
pub mod Supertypes
pub mod Members
pub mod FileAnswer
pub mod Answered
pub mod Held
pub mod Seen
