pub mod Operands
pub mod Record
pub mod Chunk
pub mod Found
pub mod Laws
pub mod After
pub mod Bounds
