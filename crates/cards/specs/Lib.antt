pub mod Rows
pub mod Calls
pub mod Claims
pub mod Wider
pub mod InnerSteps
