pub mod Arguments
pub mod Asking
pub mod Keyed
pub mod Listing
pub mod Settling
pub mod Targets
pub mod Failing
pub mod Running
