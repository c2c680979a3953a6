pub mod Scanning
pub mod Matching
pub mod Timing
