pub mod Words
pub mod Inputs
pub mod Answers
