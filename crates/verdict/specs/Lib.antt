pub mod Judged
pub mod Steps
pub mod Told
pub mod Frames
pub mod Standing
