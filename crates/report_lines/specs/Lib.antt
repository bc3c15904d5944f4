pub mod ReportTexts
