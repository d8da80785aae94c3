pub mod Promise
pub mod Cleans
pub mod RefusalTable
pub mod Used
