pub mod Accepting
pub mod Cells
pub mod InTheGraph
pub mod OwnKeys
pub mod Sorting
pub mod Spelled
pub mod Visiting
