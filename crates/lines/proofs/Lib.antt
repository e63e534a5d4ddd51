pub mod Layouts
pub mod Fields
pub mod OneAnswer
