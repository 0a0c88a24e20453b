pub mod Equal
pub mod Answered
pub mod Standing
pub mod KeptLaws
