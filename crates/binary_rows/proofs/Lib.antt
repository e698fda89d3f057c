pub mod BinaryRows
pub mod ShiftRows
