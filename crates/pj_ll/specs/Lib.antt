-- definitions
pub mod Grammar
pub mod Leads
pub mod Outcome
pub mod Steps
pub mod Predictive
pub mod Test
-- derivations put together
pub mod Composing
-- for private clauses
pub mod Entries
pub mod Table
pub mod Stack
pub mod Parsing
