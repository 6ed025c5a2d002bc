pub mod Round
pub mod Waits
pub mod OnTime
pub mod Promise
pub mod Still
