-- definitions
pub mod Names
pub mod Signature
pub mod Descriptor
pub mod Types
pub mod Spelled
pub mod Reading
pub mod Seen
