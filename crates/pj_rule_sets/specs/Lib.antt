-- definitions
pub mod Expressions
pub mod Faults
pub mod Patterns
pub mod Lists
pub mod ReadFiles
pub mod Rules
pub mod Active
-- laws
pub mod Laws
-- for private clauses
pub mod Refusals
pub mod Usable
pub mod Taking
pub mod Kept
