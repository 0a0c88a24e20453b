-- definitions
pub mod InWorlds
-- for private clauses
pub mod Gathering
pub mod Answering
