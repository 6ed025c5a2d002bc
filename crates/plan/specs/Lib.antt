-- The definitions of this crate. Assumes nothing.
pub mod Halls
pub mod Built
