pub mod Draws
pub mod Program
pub mod Tiny
pub mod Demo
