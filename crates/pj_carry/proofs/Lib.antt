pub mod Firsts
pub mod Keys
pub mod Answers
pub mod Rules
pub mod Entries
