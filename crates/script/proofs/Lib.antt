pub mod Parting
pub mod Fields
pub mod HeaderLines
pub mod EventLines
pub mod Examples
