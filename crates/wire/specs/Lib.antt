-- The definitions and laws of this crate. Assumes nothing.
pub mod Faults
pub mod Heads
pub mod Pairs
pub mod Files
pub mod Cables
pub mod Listed
pub mod Script
pub mod Tables
pub mod Laws
pub mod Causes
