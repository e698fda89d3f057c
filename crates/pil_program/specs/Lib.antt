pub mod Publics
pub mod Program
pub mod Blocks
