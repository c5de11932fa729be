pub mod Words
pub mod Widths
pub mod Transfers
