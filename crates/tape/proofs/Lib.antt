pub mod Marks
pub mod Bases
pub mod Lookups
pub mod Runs
pub mod Running
pub mod Answer
pub mod Limits
