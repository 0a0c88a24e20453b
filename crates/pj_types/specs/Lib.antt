-- definitions
pub mod Substitution
pub mod DepthFirst
pub mod Supertypes
pub mod Subtyping
pub mod Conversions
pub mod Seen
pub mod Standing
pub mod Stepped
pub mod Members
pub mod Along
pub mod NameSearch
pub mod NameWalks
-- laws
pub mod WalkAnswers
pub mod Listing
-- for private clauses
pub mod Visited
