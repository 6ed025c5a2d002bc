pub mod Rounds
pub mod Entered
pub mod Course
pub mod Mapped
