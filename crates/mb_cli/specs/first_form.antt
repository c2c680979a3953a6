pub mod Form
pub mod Lexemes
pub mod Prints
pub mod Text
pub mod machine
