-- definitions
pub mod InOrder
pub mod Kinds
pub mod Shaped
pub mod ShapedTree
pub mod Typed
pub mod Words
pub mod Written
-- for private clauses
pub mod Body
pub mod NameLists
pub mod Flat
pub mod Marks
pub mod Writing
