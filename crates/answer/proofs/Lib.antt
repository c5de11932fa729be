pub mod Written
pub mod Sixteen
