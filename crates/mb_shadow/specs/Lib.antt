pub mod Seeing
pub mod Following
pub mod Shadows
pub mod Laws
pub mod machine
