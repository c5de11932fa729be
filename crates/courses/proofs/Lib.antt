pub mod Coursing
