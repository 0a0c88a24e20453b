-- for private clauses
pub mod Spelled
