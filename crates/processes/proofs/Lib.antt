pub mod Accepted
pub mod Outcomes
pub mod Entering
pub mod Lowering
