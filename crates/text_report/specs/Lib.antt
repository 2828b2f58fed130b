-- The report of a source, and document 01's own example.
pub mod Report
pub mod ReportLaws
pub mod ReportCases
