pub mod Alone
pub mod Bound
pub mod Laws
pub mod Ways
pub mod Worked
