-- definitions
pub mod RuleMeanings
pub mod Reach
pub mod Reads
pub mod Begun
pub mod SoFar
-- for private clauses: what productions make, and where they begin
pub mod Actions
pub mod Slots
pub mod Beginnings
pub mod Parts
pub mod Values
pub mod Seen
