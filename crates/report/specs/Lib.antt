pub mod Lines
pub mod Notices
