pub mod Waiting
pub mod Chain
pub mod Rings
pub mod Worked
