pub mod Past
pub mod Around
pub mod Nearer
pub mod Ordered
pub mod Own
pub mod Within
pub mod Along
