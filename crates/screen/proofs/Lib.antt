pub mod Filling
pub mod Steps
pub mod TwoLoops
pub mod Counted
pub mod Determined
