pub mod Chained
pub mod Placed
pub mod Steps
