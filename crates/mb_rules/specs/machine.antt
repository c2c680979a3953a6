pub mod Applying
pub mod Showing
