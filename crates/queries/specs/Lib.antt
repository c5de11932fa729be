pub mod Queries
pub mod Examples
