pub mod Conditions
pub mod Deciding
mod Integers
pub mod OfTreeLaws
mod Pairs
