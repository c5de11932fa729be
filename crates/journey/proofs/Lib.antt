pub mod Hops
pub mod Acted
