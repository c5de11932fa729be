pub mod Words
pub mod Shape
pub mod Records
pub mod Versions
pub mod Limits
pub mod Examples
