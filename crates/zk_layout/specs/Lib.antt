pub mod Air
pub mod Namespaces
