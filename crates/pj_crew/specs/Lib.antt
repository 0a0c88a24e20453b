-- definitions
pub mod Together
pub mod Opening
-- for private clauses
pub mod Crew
pub mod Placing
