pub mod Running
pub mod machine
