pub mod WholeOne
pub mod KeyLaws
pub mod KeySpelling
pub mod RowLaws
pub mod OldLaws
pub mod AnyLaws
pub mod Split
pub mod Written
