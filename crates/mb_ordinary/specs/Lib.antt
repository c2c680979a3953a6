pub mod Definitions
pub mod Laws
pub mod Lookups
pub mod Objects
pub mod Walks
