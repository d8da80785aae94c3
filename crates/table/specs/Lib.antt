pub mod Fits
pub mod Promise
pub mod Links
