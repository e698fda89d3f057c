pub mod Sends
pub mod Lines
pub mod Joints
pub mod Table
pub mod Laws
