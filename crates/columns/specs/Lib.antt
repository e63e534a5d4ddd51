pub mod Columns
pub mod Parts
