-- definitions
pub mod Characters
pub mod Depth
pub mod Elements
pub mod Faults
pub mod Markup
pub mod Names
-- for private clauses: how the reader works
pub mod Seen
pub mod States
pub mod Stopping
