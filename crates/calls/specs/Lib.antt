pub mod Questions
pub mod Codes
pub mod Run
pub mod Verdict
pub mod List
