pub mod Roses
pub mod Heights
pub mod Form
pub mod Seen
pub mod Names
pub mod machine
