pub mod Bound
pub mod Furnished
pub mod Untouched
pub mod machine
pub mod Ours
