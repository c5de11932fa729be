pub mod Shapes
pub mod Soundness
pub mod EntryRead
pub mod Candidates
pub mod Lookups
pub mod Links
pub mod Ports
