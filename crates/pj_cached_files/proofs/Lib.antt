pub mod ActiveKeys
pub mod Asks
pub mod Entries
pub mod Needed
pub mod Leaving
pub mod New
pub mod NewResults
pub mod OneAsked
pub mod Reusing
pub mod Rules
-- files one after the other
pub mod OneMore
pub mod Naming
pub mod CacheLeft
pub mod Gathering
