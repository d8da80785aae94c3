pub mod Words
pub mod Delays
pub mod Calls
pub mod Worked
