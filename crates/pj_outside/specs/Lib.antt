-- definitions
pub mod Faults
pub mod Files
pub mod Putting
pub mod Doors
pub mod InMemory
pub mod Keeping
