-- definitions, in the order in which they are read
pub mod Session
-- laws
pub mod Laws
-- for private clauses
pub mod Steps
