pub mod Promises
pub mod Served
pub mod Walks
pub mod Little
pub mod Exits
