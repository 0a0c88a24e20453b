pub mod Filters
pub mod Unions
pub mod DenotedTrees
pub mod KnownPatterns
pub mod Related
pub mod Facts
