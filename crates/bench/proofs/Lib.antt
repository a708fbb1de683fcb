pub mod LineEnds
pub mod Rest
pub mod Lengths
pub mod Whole
