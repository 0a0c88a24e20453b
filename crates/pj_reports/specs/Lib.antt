-- definitions
pub mod Shown
pub mod ReportText
-- laws
pub mod TextRows
-- for private clauses
pub mod Borrowed
pub mod CsvWriter
pub mod JsonData
