-- definitions
pub mod Expressions
-- for private clauses
pub mod Following
