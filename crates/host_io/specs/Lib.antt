pub mod Slots
pub mod World
pub mod Calls
pub mod Memory
pub mod States
pub mod OsSlots
pub mod MemStates
