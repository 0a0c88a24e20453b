pub mod Turns
mod Loops
mod Among
mod Phased
mod Chosen
pub mod InsideLaws
