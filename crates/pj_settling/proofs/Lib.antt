pub mod Comes
pub mod Remaining
pub mod Visits
pub mod Settled
pub mod Expanded
pub mod Searches
