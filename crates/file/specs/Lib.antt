pub mod Tables
pub mod Accepted
pub mod Reading
pub mod Examples
