-- definitions
pub mod Effective
pub mod LookUp
pub mod Known
pub mod Finding
pub mod Referring
pub mod Refusals
pub mod Counts
pub mod Load
pub mod Outcome
-- laws
pub mod Laws
-- for private clauses
pub mod Defining
pub mod Gathering
pub mod Patterns
pub mod States
