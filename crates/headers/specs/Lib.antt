pub mod Bits
pub mod Sets
pub mod Actions
pub mod Carving
pub mod Examples
pub mod ActionExamples
