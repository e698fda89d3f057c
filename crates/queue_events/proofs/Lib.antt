pub mod Weights
pub mod Passes
pub mod Events
pub mod Led
