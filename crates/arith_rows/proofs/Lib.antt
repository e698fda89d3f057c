pub mod Signs
pub mod Rows
