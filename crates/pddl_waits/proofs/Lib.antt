-- Laws that belong to no one function.
pub mod Filling
pub mod Next
pub mod Parts
pub mod Pass
pub mod Waits
