pub mod Descriptors
pub mod Validate
pub mod Laws
pub mod Values
pub mod View
