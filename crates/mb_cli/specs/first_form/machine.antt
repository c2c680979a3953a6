pub mod FormFaults
pub mod Literals
pub mod Meanings
pub mod Whole
