pub mod Pipe
pub mod Events
pub mod Sound
