pub mod Written
pub mod Heights
pub mod Stack
pub mod Growing
pub mod Defaults
pub mod Shapes
pub mod Starts
