pub mod Legal
pub mod Listed
pub mod Planted
pub mod Laws
pub mod Made
