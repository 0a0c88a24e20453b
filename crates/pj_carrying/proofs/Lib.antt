pub mod ByRule
pub mod Answering
pub mod Lone
pub mod Keyed
pub mod Among
