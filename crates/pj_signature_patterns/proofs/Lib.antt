pub mod Cutting
pub mod ArrayNames
pub mod Listed
pub mod Dotted
pub mod Free
pub mod Exact
