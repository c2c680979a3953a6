pub mod Engine
pub mod Entries
pub mod Rounds
pub mod Kept
pub mod Tested
