-- definitions
pub mod NameFaults
pub mod Spells
pub mod Outcomes
pub mod Faults
-- for laws
pub mod WellSpelled
-- for private clauses
pub mod Bound
pub mod Seen
