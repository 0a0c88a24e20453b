-- definitions
pub mod InClass
pub mod Fields
pub mod Methods
pub mod Receivers
pub mod Seen
-- for private clauses
pub mod SupertypeWalks
