-- definitions
pub mod Answer
pub mod Characters
pub mod First
pub mod Gaps
pub mod Literals
pub mod Pattern
pub mod Rules
pub mod Signs
pub mod Size
pub mod Tokens
-- what the scanner computes: for private clauses, and for the laws that it follows the rules and that gaps stand in front
pub mod Scanning
pub mod States
