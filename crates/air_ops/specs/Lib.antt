pub mod Tables
pub mod Binary
pub mod Shift
