-- definitions
pub mod Axes
pub mod Order
-- for private clauses
pub mod Search
pub mod Standing
