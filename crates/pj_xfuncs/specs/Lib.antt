-- definitions
pub mod General
pub mod Library
pub mod Numbers
pub mod Sequences
pub mod Strings
-- for private clauses
pub mod Gathered
pub mod Places
pub mod Seen
pub mod Spaces
pub mod Translate
