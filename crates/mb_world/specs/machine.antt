pub mod Arrays
pub mod Firsts
pub mod Grouped
pub mod Inside
pub mod Places
pub mod Roles
