-- definitions
pub mod ModifiedUtf8
pub mod Texts
pub mod ClassFile
pub mod ClassOf
-- for private clauses
pub mod Passed
