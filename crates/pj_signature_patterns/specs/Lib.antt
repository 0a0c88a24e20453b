-- definitions
pub mod Cuts
pub mod Identifiers
pub mod TypeNames
pub mod Patterns
-- for private clauses
pub mod Reading
