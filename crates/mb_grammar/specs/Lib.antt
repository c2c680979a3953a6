pub mod Tokens
pub mod Nonterminals
pub mod Labels
pub mod Parts
pub mod Grammar
pub mod Script
pub mod Bodies
pub mod Renaming
