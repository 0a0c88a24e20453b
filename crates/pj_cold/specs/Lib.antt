-- definitions, in the order in which they are read
pub mod Cold
pub mod Finds
-- laws
pub mod Laws
-- for clauses of the steps
pub mod Steps
