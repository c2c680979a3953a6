pub mod Table
pub mod Filling
pub mod Acting
pub mod Printing
