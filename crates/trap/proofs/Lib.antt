pub mod Determined
pub mod Reported
pub mod RingStays
