pub mod Plays
pub mod Budgets
pub mod FindWords
pub mod Ways
pub mod FindEdge
pub mod VerdictPlayed
pub mod ListPlayed
pub mod Widened
