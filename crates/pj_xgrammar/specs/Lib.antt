-- definitions
pub mod Words
pub mod Terminals
pub mod Notation
pub mod XPath
pub mod Predictive
pub mod Standing
