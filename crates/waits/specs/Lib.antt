pub mod Feeding
pub mod Laws
pub mod Star
pub mod Working
pub mod Refusing
