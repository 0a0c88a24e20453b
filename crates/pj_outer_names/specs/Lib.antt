-- definitions
pub mod Candidates
pub mod Imports
-- for private clauses
pub mod ByName
-- definitions
pub mod Around
pub mod Inherited
pub mod NameWalks
