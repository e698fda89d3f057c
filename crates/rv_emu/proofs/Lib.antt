pub mod Executes
pub mod Onward
pub mod Answers
pub mod Once
pub mod Windows
