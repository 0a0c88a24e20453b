pub mod Members
pub mod Receivers
pub mod Choosing
pub mod Tests
