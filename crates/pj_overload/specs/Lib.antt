-- definitions
pub mod Testing
pub mod Passed
pub mod Candidates
pub mod Conversions
pub mod Phases
pub mod Specific
pub mod Choosing
pub mod Inside
-- for private clauses
pub mod Seen
