pub mod Fields
pub mod Calls
pub mod Wider
pub mod InnerFields
pub mod InnerCalls
