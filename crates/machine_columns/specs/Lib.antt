pub mod Values
pub mod Accepted
pub mod Place
