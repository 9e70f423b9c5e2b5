pub mod Laws
pub mod Worked
