pub mod Values
pub mod Numbers
pub mod Worth
pub mod Stores
pub mod RoundTrip
pub mod Run
pub mod Never
