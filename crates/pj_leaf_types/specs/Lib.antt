pub mod Written
pub mod Classes
pub mod Leaves
pub mod Variables
