pub mod Owning
pub mod Advancing
pub mod Running
pub mod Starting
pub mod Beginning
