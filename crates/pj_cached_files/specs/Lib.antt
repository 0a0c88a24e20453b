-- definitions
pub mod Made
pub mod Asked
pub mod Ran
pub mod LeftFile
pub mod LeftFiles
-- for private clauses
pub mod Completed
pub mod Gathered
