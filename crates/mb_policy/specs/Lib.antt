pub mod Fields
pub mod Rows
pub mod Conflicts
pub mod Policy
pub mod Accepted
pub mod Rules
pub mod machine
