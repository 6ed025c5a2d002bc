pub mod Bits
pub mod Adding
pub mod Layered
pub mod Rooted
pub mod Links
pub mod Joining
pub mod Central
