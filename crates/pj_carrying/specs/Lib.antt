-- for private clauses
pub mod ByRule
