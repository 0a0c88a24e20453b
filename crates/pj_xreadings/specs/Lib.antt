-- definitions
pub mod Mentions
pub mod Steps
pub mod Operands
-- what the code answers
pub mod Seen
-- for the arguments of the code
pub mod Constructs
-- definitions
pub mod Shapes
pub mod Nesting
pub mod Spelled
-- laws
pub mod Nodes
