-- Laws that belong to no one function.
pub mod Appending
pub mod Chain
pub mod Keywords
pub mod Many
pub mod Regrouped
pub mod RegroupedModel
pub mod RegroupedTasks
pub mod RegroupedWords
pub mod Sets
pub mod Shorter
pub mod Sizes
pub mod Spelt
pub mod Turns
pub mod Walk
