mod Laws
pub mod Refusals
