pub mod Cut
pub mod Texts
