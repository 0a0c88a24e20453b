-- definitions
pub mod Events
-- laws
pub mod Lawful
