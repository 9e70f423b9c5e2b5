pub mod Inner
pub mod Value
