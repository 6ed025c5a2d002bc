-- The definitions of this crate. Assumes nothing.
pub mod Games
pub mod Kept
pub mod Played
pub mod Standing
