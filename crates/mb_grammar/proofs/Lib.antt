pub mod Forward
pub mod FirstTokens
pub mod Renamed
pub mod Forms
