pub mod Modulo
pub mod Reading
pub mod Row
pub mod Flags
pub mod Small
pub mod Follows
pub mod Example
