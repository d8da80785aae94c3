pub mod InWords
pub mod Begun
pub mod Feed
