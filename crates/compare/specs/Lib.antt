pub mod Differing
pub mod Common
pub mod Answer
pub mod Promise
pub mod Exact
pub mod Worked
