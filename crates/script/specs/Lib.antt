pub mod Numbers
pub mod Parts
pub mod Script
pub mod InnerParts
