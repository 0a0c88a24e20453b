pub mod Over
pub mod Plain
-- for private clauses
pub mod Whole
