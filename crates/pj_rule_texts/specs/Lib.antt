-- definitions
pub mod References
pub mod Rules
pub mod Values
pub mod Written
pub mod Seen
-- for private clauses
pub mod Spaces
pub mod Tables
-- definitions
pub mod Files
-- for private clauses
pub mod Readings
pub mod Refusals
