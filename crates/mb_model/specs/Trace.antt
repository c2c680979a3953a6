-- the trace: what an entry says, what entries promise, and which answers there may be
pub mod Ops
pub mod Entries
pub mod Lawful
pub mod Answers
