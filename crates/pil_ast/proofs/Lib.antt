pub mod Parts
pub mod Trees
pub mod Search
pub mod Fuel
pub mod Plans
pub mod Limits
pub mod Known
pub mod Out
