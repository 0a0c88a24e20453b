-- definitions
pub mod ClassName
pub mod JavaType
pub mod Asking
pub mod Meaning
pub mod Told
pub mod Held
pub mod AnswerList
pub mod Noting
pub mod Expand
