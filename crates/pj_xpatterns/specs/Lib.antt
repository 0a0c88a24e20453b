-- definitions
pub mod Meaning
pub mod Patterns
pub mod Refusing
pub mod Written
-- laws
pub mod Laws
-- for private clauses
pub mod Forms
pub mod Keys
