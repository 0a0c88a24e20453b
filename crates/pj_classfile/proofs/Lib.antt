pub mod Units
pub mod Tags
pub mod Among
pub mod OneLaws
pub mod UnitLaws
pub mod CharLaws
pub mod Seen
