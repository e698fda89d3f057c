pub mod Cycles
pub mod Paths
pub mod Finish
pub mod Users
pub mod Verdicts
