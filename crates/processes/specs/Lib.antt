pub mod Waits
pub mod Semaphores
