pub mod Inner
pub mod Number
