-- definitions
pub mod Building
pub mod Kind
pub mod Nested
pub mod Places
pub mod Tree
-- for private clauses
pub mod Rows
pub mod Runs
-- definitions
pub mod Children
pub mod Kinds
pub mod Words
