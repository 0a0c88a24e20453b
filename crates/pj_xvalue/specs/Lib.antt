-- definitions
pub mod Arguments
pub mod Atomic
pub mod Attributes
pub mod Boolean
pub mod Comparison
pub mod Items
pub mod Modifiers
pub mod OfTree
pub mod Replies
-- laws
pub mod Deciding
