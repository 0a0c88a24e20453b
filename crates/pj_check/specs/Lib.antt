-- definitions, in the order in which they are read
pub mod Formats
pub mod Verdicts
pub mod Run
pub mod Limits
pub mod Refused
pub mod Caching
pub mod Outcome
pub mod NoteText
pub mod Notes
pub mod Kept
-- laws
pub mod Laws
pub mod ReportLaws
-- for private clauses
pub mod Steps
