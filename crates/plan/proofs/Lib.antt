pub mod Accepted
pub mod Roads
