pub mod Laid
pub mod Plays
pub mod Texts
