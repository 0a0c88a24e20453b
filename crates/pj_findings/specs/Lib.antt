-- definitions
pub mod Denoted
pub mod Extents
pub mod Reasons
pub mod Messages
pub mod Merged
-- laws
pub mod Laws
