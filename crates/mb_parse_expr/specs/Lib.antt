pub mod Pauses
pub mod machine
