pub mod Standing
pub mod Keeping
pub mod Scopes
pub mod Storing
pub mod Top
pub mod machine
