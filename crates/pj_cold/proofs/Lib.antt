pub mod Told
mod Faults
pub mod Gathering
pub mod Asked
mod SomeReport
