pub mod Judging
pub mod Lists
pub mod OneAnswer
pub mod Sources
pub mod Listing
pub mod Keys
pub mod Told
