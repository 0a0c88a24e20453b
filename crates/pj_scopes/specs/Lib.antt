-- definitions
pub mod StaticImports
pub mod VariableName
pub mod Seen
-- for private clauses
pub mod Searched
