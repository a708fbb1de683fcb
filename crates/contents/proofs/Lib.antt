pub mod Tests
pub mod Same
pub mod KindRules
pub mod Facts
pub mod Wider
