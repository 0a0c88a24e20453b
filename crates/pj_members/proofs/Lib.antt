pub mod Turns
pub mod SupertypesTaken
pub mod SupertypeTurns
