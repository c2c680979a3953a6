pub mod Plain
pub mod Tries
pub mod Declaring
pub mod Keeping
