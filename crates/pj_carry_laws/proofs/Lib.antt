pub mod Ascending
pub mod Merges
pub mod InOrder
