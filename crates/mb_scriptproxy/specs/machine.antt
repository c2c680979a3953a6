pub mod Acting
pub mod Making
pub mod Parting
pub mod Resuming
pub mod Trapping
