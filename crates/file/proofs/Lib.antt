pub mod Numbering
mod Steps
mod Loops
mod Whole
pub mod Sound
pub mod Accepted
