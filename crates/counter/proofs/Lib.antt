pub mod Integers
pub mod Signs
