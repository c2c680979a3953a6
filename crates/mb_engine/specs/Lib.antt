pub mod Begun
pub mod Turns
pub mod Driving
pub mod machine
