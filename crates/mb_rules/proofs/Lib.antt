pub mod Labelled
pub mod Showing
pub mod Views
pub mod Rulings
