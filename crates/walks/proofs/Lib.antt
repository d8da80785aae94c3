pub mod Determined
pub mod Folded
pub mod Calls
pub mod Requests
pub mod Exactly
