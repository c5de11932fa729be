pub mod Read
pub mod Refusals
pub mod Questions
pub mod Reading
pub mod Tables
pub mod Examples
