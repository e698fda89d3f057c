pub mod Breaks
pub mod Small
