pub mod Cards
pub mod Demand3
pub mod Claims
