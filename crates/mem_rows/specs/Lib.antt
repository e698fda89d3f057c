pub mod Accesses
pub mod Order
pub mod Kept
pub mod Rows
pub mod Columns
pub mod Initial
pub mod Sequence
