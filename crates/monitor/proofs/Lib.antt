pub mod RefusalTable
pub mod CallEnds
pub mod Determined
pub mod Unread
pub mod ShutOut
pub mod HowFar
pub mod Cleaning
pub mod Accepted
