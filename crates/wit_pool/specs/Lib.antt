pub mod Jobs
pub mod Serving
pub mod Progress
pub mod Planned
pub mod Led
pub mod Crew
pub mod Placed
pub mod Pool
