pub mod Crossing
pub mod Crossed
pub mod Laws
pub mod machine
