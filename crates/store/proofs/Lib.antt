pub mod Fits
pub mod Rings
