pub mod Outside
pub mod Resolving
pub mod Headers
pub mod Declared
pub mod FileWorld
