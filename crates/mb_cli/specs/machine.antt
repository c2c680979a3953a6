pub mod Commands
pub mod Lines
pub mod Pairs
pub mod Refusals
pub mod Runs
pub mod Scanned
pub mod TreeFaults
