pub mod Computing
pub mod Examples
pub mod Richer
pub mod Equals
pub mod Replies
pub mod Lost
