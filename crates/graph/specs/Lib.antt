pub mod Schedules
pub mod Legs
pub mod Tables
pub mod Laws
pub mod Examples
