pub mod Decimals
pub mod Fields
pub mod Keys
pub mod Names
pub mod Numbering
pub mod Parts
pub mod Told
