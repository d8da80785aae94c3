pub mod Ticking
pub mod Growing
pub mod Walking
