pub mod Worlds
pub mod Contents
pub mod Bytes
pub mod Demand3
pub mod Encoded
