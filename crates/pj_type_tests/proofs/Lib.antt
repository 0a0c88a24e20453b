pub mod NameLaws
pub mod AlongNames
pub mod Parameters
