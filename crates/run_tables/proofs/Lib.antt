pub mod Jobs
pub mod Found
pub mod Airs
pub mod Once
