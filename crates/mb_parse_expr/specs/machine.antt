pub mod Machine
pub mod Covers
pub mod Progress
