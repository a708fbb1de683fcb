pub mod Rows
pub mod Calls
pub mod Steps
pub mod Stored
pub mod Asked
pub mod Encoded
pub mod Wider
pub mod Examples
