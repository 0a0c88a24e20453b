pub mod Places
pub mod IsWellFormed
pub mod SameTable
pub mod Numbers
pub mod ContextualWords
pub mod Shut
mod Stack
pub mod Stretches
pub mod TreeOfWords
