pub mod Fields
pub mod Table
pub mod Is
pub mod Numbers
pub mod Ranges
pub mod Encoding
