-- definitions
pub mod Pattern
pub mod Rules
pub mod Derivatives
-- what holds of derivatives, for definitions and proofs above
pub mod Derived
