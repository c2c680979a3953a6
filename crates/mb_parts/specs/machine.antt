pub mod Declaring
pub mod Marks
