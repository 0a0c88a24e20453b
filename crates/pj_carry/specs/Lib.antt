-- definitions
pub mod Form
pub mod Rows
pub mod Carried
pub mod RightOld
