pub mod Statements
pub mod Printed
pub mod Tables
pub mod Levels
pub mod Laws
