pub mod Chains
pub mod Growth
pub mod Grown
pub mod Keys
