pub mod Indices
pub mod Kept
pub mod Plain
mod Tables
pub mod WithText
