pub mod Causes
pub mod Counts
pub mod FileState
pub mod machine
pub mod Shelf
pub mod ShelfState
pub mod SinkState
pub mod WriteState
