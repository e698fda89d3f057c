pub mod Exact
pub mod Row
pub mod Tables
pub mod Laws
pub mod Example
