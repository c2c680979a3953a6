pub mod Line
pub mod machine
