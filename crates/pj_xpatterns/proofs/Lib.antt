pub mod Forms
pub mod Lookups
pub mod PatternFacts
pub mod Pieces
pub mod SeenTrees
