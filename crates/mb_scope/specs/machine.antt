pub mod Around
pub mod First
pub mod FirstFault
pub mod Picked
pub mod Rows
