pub mod Joins
pub mod OwnRun
pub mod Sending
