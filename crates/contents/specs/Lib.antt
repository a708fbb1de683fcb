pub mod Estimates
pub mod Logs
pub mod Images
pub mod Messages
