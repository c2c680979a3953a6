pub mod Words
pub mod Parts
pub mod Values
pub mod Settings
pub mod Orders
pub mod machine
