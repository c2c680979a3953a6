pub mod Seen
pub mod machine
