pub mod Looks
pub mod Asks
pub mod Working
