pub mod Listing
pub mod InnerLines
pub mod Widths
