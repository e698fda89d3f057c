pub mod Comments
pub mod Fronts
pub mod Longest
pub mod Passing
pub mod Pieces
pub mod Spelled
pub mod Valid
