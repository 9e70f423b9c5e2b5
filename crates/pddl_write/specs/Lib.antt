pub mod Inner
pub mod Post
