-- The operations agree with the execution model of social laws in MA-STRIPS.
pub mod Ask
pub mod Joint
pub mod Outcome
pub mod Pick
pub mod Setting
pub mod Solo
pub mod Step
pub mod Worlds
