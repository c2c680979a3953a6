pub mod Cutting
pub mod Done
pub mod Tried
