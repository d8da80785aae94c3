pub mod TrappedWalked
pub mod Exactly
