pub mod Plans
pub mod Counting
pub mod Fuel
pub mod StarWorked
pub mod Working
pub mod Roads
pub mod Slow
