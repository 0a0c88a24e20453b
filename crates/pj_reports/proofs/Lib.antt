pub mod CsvFacts
pub mod JsonFacts
pub mod ReportLaws
pub mod ShownFacts
