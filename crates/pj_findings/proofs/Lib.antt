pub mod Elements
pub mod Merging
pub mod FindingLaws
pub mod ErrorLaws
