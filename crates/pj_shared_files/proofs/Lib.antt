pub mod InWorlds
pub mod AllLeft
pub mod Answering
pub mod Finally
-- finds
pub mod Counting
pub mod Finds
pub mod ByThreads
-- threads
pub mod Sharing
