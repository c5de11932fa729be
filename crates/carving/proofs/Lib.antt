pub mod Arrays
pub mod Cuts
