-- the abstract operations on values and objects that rows share (ECMA-262 6.2.6, 7, 10.2)
pub mod Makings
pub mod Conversions
pub mod Calls
pub mod Descriptors
