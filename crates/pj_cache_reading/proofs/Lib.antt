pub mod Texts
pub mod Same
pub mod Sealed
pub mod Ends
pub mod OneAnswer
