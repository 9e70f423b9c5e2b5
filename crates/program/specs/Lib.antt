pub mod Program
pub mod Inner
