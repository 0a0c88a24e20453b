pub mod SayingLaws
pub mod ReportLaws
