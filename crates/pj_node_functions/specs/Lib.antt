-- definitions
pub mod Arguments
pub mod Files
pub mod Kinds
pub mod ModifierWords
pub mod Replies
-- laws
pub mod Laws
