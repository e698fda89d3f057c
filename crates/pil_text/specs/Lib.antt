pub mod Refusal
pub mod Text
pub mod Cyclic
pub mod Computed
