pub mod Acceptance
pub mod Given
pub mod Startable
pub mod Written
