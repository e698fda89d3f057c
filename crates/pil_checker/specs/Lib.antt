pub mod Programs
pub mod Plans
pub mod Standing
