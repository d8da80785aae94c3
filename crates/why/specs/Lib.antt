pub mod QueueParts
pub mod Asked
pub mod Clause
pub mod Fault
pub mod Looked
pub mod Denied
pub mod Says
pub mod Worked
