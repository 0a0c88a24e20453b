-- definitions
pub mod ListKeys
pub mod FormatOne
pub mod TextOne
pub mod FittingOne
pub mod OrderedOne
pub mod AnyStored
