pub mod Those
pub mod Entries
pub mod InChains
pub mod Ranked
pub mod Backs
