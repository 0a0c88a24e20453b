pub mod Fronts
pub mod ListGoals
pub mod OfTree
pub mod Scoping
