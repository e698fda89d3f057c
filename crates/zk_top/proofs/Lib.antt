pub mod Stages
pub mod Programs
pub mod FileTables
pub mod Constraints
pub mod Publics
pub mod FileStages
pub mod Verdicts
pub mod Making
pub mod Pieces
pub mod Checks
pub mod Sentences
pub mod Demos
mod ReadOut
