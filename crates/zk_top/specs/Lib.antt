pub mod Outcome
pub mod Shown
pub mod Ends
pub mod Parts
pub mod Headline
