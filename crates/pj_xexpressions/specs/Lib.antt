-- definitions
pub mod Among
pub mod Expressions
pub mod Functions
pub mod Names
pub mod Trees
-- laws
pub mod Layers
pub mod TreeFolds
