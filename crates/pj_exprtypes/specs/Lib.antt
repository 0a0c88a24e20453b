-- definitions
pub mod Typing
pub mod Operands
pub mod Expressions
pub mod Declarations
pub mod Names
pub mod Calls
pub mod TypeOf
pub mod Chosen
pub mod Table
-- laws
pub mod ByKind
-- for private clauses
pub mod Seen
pub mod Fits
pub mod Parts
pub mod Order
