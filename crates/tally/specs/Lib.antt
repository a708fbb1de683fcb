pub mod Limits
pub mod Refusal
pub mod Count
pub mod Quorum
pub mod Gathered
pub mod Tally
pub mod InnerGathered
