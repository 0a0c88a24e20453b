pub mod Ranges
pub mod Sets
pub mod Values
pub mod OfTree
pub mod Forms
pub mod SequenceLaws
