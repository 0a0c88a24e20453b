-- definitions
pub mod Literals
pub mod Operators
pub mod Same
pub mod Conditional
-- for clauses
pub mod Seen
