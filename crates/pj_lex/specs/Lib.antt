-- definitions
pub mod Answer
pub mod Characters
pub mod Comments
pub mod Numbers
pub mod Pattern
pub mod Quoted
pub mod Rules
pub mod Size
pub mod Tokens
pub mod Words
-- for private clauses: what the scanner computes
pub mod Scanning
pub mod States
