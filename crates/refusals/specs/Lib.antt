pub mod Drafts
pub mod Lookups
pub mod Making
pub mod Offers
pub mod Reading
pub mod Sessions
pub mod Texts
