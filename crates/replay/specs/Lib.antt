pub mod Open
pub mod Streams
