pub mod Format
pub mod Front
pub mod Items
pub mod Parts
pub mod Pieces
pub mod Reading
pub mod Stands
pub mod Steps
