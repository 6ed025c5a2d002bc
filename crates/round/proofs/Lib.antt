pub mod Halves
pub mod Kept
pub mod Places
pub mod Sending
pub mod Starts
pub mod States
pub mod Stays
