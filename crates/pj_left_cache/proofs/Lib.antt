pub mod MissingLaws
pub mod SaidLaws
pub mod LeavingLaws
pub mod OrderLaws
pub mod LeftLaws
pub mod ToOrder
pub mod FromOrder
pub mod ByBytes
