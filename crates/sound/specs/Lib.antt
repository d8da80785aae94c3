pub mod Buffers
pub mod Processes
pub mod Names
pub mod Devices
pub mod Queues
pub mod Semaphores
pub mod Records
