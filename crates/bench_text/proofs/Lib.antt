pub mod Appending
pub mod Digits
pub mod Decimal
pub mod Laws
pub mod Examples
