pub mod Trapped
pub mod Reported
