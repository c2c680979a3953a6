pub mod Index
pub mod machine
pub mod Spelling
pub mod Texts
