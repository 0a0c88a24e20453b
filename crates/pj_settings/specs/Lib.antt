-- definitions
pub mod Options
pub mod Values
pub mod Job
-- for private clauses
pub mod Borrowed
