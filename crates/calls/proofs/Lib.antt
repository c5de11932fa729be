pub mod Asking
pub mod MoreAsked
pub mod Judging
pub mod OwnWidth
pub mod Listing
