pub mod Define
pub mod machine
