pub mod Kinds
pub mod Bindings
pub mod Jumps
pub mod Targets
pub mod Faults
pub mod Names
pub mod machine
