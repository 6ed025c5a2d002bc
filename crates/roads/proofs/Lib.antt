pub mod Below
pub mod Roads
pub mod Soon
