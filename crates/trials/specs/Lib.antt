pub mod Trials
pub mod Examples
