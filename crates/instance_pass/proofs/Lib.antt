pub mod Rows
pub mod Elements
pub mod Reading
pub mod Passing
pub mod Blocks
