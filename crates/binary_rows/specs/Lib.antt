pub mod BinaryCells
pub mod ShiftCells
