pub mod Rows
pub mod Program
