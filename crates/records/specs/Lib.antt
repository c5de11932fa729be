pub mod Kinds
pub mod Examples
