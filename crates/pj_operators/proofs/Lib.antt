pub mod Endings
pub mod Promotion
pub mod SameTypes
