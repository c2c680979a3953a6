pub mod Table
pub mod KeyOrder
pub mod machine
