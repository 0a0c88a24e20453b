pub mod Beneath
pub mod First
pub mod Given
pub mod OfKind
