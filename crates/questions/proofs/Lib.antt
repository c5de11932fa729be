pub mod Lists
pub mod Chains
pub mod Clean
pub mod Versions
pub mod Turns
pub mod Asked
pub mod Yes
pub mod Numbers
