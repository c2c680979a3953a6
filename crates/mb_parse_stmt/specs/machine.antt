pub mod Terminals
pub mod Machine
pub mod Covers
pub mod Progress
pub mod Stops
pub mod Levels
