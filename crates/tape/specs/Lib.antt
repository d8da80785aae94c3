pub mod Parity
pub mod Character
pub mod Tape
pub mod Promise
pub mod Limits
pub mod Worked
