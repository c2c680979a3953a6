-- the internal methods of objects (ECMA-262 10)
pub mod Methods
pub mod Rules
pub mod Proxies
