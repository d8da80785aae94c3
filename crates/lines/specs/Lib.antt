pub mod Digits
pub mod Line
pub mod Promise
pub mod Replay
pub mod Worked
