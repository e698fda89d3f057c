pub mod Senders
pub mod Checks
pub mod Parts
pub mod Passes
