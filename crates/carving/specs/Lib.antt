pub mod Cuts
pub mod Examples
