pub mod Numbers
pub mod Roads
pub mod Laws
