pub mod Courses
pub mod Examples
