pub mod Decimals
pub mod Shown
pub mod Reading
pub mod Writing
pub mod Sizes
pub mod Setting
