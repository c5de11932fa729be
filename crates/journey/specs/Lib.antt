pub mod Journey
pub mod Examples
