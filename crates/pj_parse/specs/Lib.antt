-- definitions
pub mod Parses
pub mod Names
pub mod PoolText
pub mod JavaFile
pub mod FileOutcome
pub mod OwnTokens
pub mod Refused
pub mod Messages
-- laws, with the proofs on which the function in `FileOutcome` rests
pub mod Laws
pub mod OneOutcome
pub mod FileThere
-- for private clauses
pub mod Faults
pub mod Entries
