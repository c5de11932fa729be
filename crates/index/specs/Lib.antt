pub mod Chains
pub mod Index
pub mod Building
pub mod Places
