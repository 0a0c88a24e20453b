-- definitions
pub mod Digits
pub mod IntegerValue
pub mod Escapes
pub mod Lines
pub mod TextBlock
pub mod StringValue
-- laws
pub mod Spellings
-- for private clauses
pub mod Reading
