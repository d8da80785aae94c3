pub mod Screen
pub mod Meaning
pub mod Reading
pub mod Worked
