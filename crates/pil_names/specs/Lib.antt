pub mod Outline
pub mod Finding
pub mod Wrongs
pub mod Least
pub mod Shown
pub mod Directory
pub mod Gathering
