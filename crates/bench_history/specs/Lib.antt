pub mod History
pub mod Calls
pub mod Covered
pub mod Listed
pub mod Wider
