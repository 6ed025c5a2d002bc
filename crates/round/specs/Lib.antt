pub mod Fabric
pub mod Link
pub mod Refused
pub mod Running
