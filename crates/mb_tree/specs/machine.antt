pub mod Operands
pub mod Stack
pub mod Below
pub mod Starts
