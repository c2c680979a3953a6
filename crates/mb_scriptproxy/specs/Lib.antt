pub mod Ours
pub mod machine
