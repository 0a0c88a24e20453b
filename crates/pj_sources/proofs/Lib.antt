pub mod Endings
pub mod Told
pub mod Items
pub mod Ordered
pub mod ReadingLaws
pub mod Existence
