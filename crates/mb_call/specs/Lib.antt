pub mod Arrays
pub mod Due
pub mod Lines
pub mod Methods
pub mod Ours
pub mod Owners
pub mod machine
