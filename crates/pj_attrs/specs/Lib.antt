-- definitions
pub mod Table
pub mod Attribute
pub mod FileFacts
-- laws, with the proofs on which what an evaluator is told rests
pub mod Laws
