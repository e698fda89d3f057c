pub mod Worlds
pub mod Loops
pub mod SlotLists
pub mod SlotStates
pub mod MemWorlds
pub mod MemCalls
pub mod FileLists
pub mod FileStates
