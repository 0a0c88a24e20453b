-- for private clauses
pub mod Copied
pub mod Spelled
pub mod Unsealed
