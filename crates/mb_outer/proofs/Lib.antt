pub mod Numbers
pub mod Rows
pub mod Shelves
pub mod Writes
