pub mod Steps
mod Paths
pub mod Tracings
pub mod Places
pub mod Trying
mod Descents
mod Carves
mod Takes
mod Stops
