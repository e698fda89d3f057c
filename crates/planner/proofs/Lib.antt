pub mod Walk
pub mod Chosen
pub mod Whole
pub mod Once
pub mod Keeping
pub mod CountLemmas
pub mod Handed
