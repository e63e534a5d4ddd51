pub mod Faults
pub mod Texts
pub mod Sheets
pub mod Readings
pub mod Summaries
