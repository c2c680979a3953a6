pub mod Again
pub mod Fixed
pub mod Given
