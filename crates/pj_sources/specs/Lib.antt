-- definitions
pub mod Limits
pub mod Paths
pub mod Listing
pub mod Reading
pub mod Faults
-- laws
pub mod Laws
