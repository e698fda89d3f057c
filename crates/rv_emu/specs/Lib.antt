pub mod Emulator
pub mod Answered
