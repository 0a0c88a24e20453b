-- definitions
pub mod Form
pub mod Derivation
pub mod Derives
pub mod WellFormed
-- definitions: what is worked out of a grammar once
pub mod Program
pub mod Analysis
pub mod Graph
pub mod Firsts
pub mod Analysed
