pub mod Constants
pub mod Columns
