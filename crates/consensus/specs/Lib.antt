pub mod Conditions
pub mod Units
pub mod Step
pub mod Methods
pub mod Sound
pub mod InnerMethods
