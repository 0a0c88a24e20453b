-- definitions
pub mod Resolved
pub mod TypeName
-- for private clauses
pub mod Searching
