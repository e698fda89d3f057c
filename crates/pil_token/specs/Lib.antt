pub mod Longest
pub mod Refusal
pub mod Spelled
pub mod Spelling
pub mod Tokens
