pub mod Tell
pub mod Written
pub mod OldKeys
