-- definitions
pub mod Scope
pub mod Behind
pub mod Bodies
pub mod Bindings
pub mod VariableScopes
pub mod TypeScopes
pub mod Rows
pub mod Imports
pub mod Nearest
-- for private clauses
pub mod Table
