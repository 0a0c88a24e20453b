-- definitions
pub mod Facts
pub mod Called
pub mod Replies
-- what an implementation tells
pub mod Telling
-- for private clauses
pub mod Parts
-- what a ghost field and a ghost member rest on
pub mod OneProof
pub mod ReplyKinds
