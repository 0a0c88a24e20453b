-- definitions
pub mod Escapes
pub mod SourceText
pub mod SourceWritings
-- for private clauses: what the translation computes
pub mod SourceRuns
pub mod Translating
