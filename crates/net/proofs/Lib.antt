pub mod Falls
pub mod Outside
pub mod Positions
pub mod Ranked
pub mod Steps
