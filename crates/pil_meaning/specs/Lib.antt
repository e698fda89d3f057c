pub mod Meaning
pub mod Marks
pub mod Soundness
pub mod Fitting
pub mod Firsts
pub mod Closed
pub mod Given
pub mod Standing
