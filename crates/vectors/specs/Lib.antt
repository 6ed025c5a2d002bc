pub mod Answers
pub mod Digests
pub mod Programs
