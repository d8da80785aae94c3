pub mod Opening
pub mod Reading
pub mod Output
pub mod Streaming
