pub mod Behind
pub mod Leaves
pub mod Calls
pub mod Expressions
pub mod Replies
