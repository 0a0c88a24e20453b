-- for private clauses
pub mod Table
pub mod Codes
pub mod Ends
pub mod Slots
pub mod Plan
pub mod Made
pub mod Emit
