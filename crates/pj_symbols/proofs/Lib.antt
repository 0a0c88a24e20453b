pub mod Below
pub mod ClassLaws
pub mod Found
