pub mod File
pub mod Header
pub mod Refusal
pub mod Loads
pub mod Progress
pub mod Layout
pub mod Extents
