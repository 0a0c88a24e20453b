-- definitions
pub mod Looks
pub mod Telling
pub mod Working
-- for private clauses
pub mod Kept
