-- definitions
pub mod Nodes
pub mod Candidates
pub mod Choosing
pub mod Results
pub mod Calls
-- for private clauses
pub mod Seen
