pub mod Rows
pub mod ListStep
