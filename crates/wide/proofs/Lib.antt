pub mod Halves
pub mod Arrays
pub mod Answers
pub mod Entries
