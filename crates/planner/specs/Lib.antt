pub mod Rows
pub mod Jobs
pub mod Track
