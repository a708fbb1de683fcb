pub mod Accepting
pub mod Numbers
pub mod PlayedLines
pub mod Settled
pub mod Wider
