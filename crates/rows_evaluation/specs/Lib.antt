-- definitions
pub mod Nodes
pub mod Table
pub mod Untold
-- laws
pub mod TableLaws
