-- definitions
pub mod Classes
pub mod Kinds
pub mod Names
pub mod Symbols
pub mod Variables
-- for private clauses
pub mod Order
