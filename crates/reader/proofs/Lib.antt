pub mod FaultLines
pub mod Readings
pub mod Tellings
pub mod OneTelling
pub mod Surveys
