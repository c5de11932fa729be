pub mod Targets
pub mod Cared
