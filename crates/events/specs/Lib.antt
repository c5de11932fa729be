pub mod Play
pub mod Asked
pub mod Pass
pub mod Examples
