pub mod Digits
pub mod Ordered
