pub mod Higher
pub mod Rising
pub mod Ways
pub mod Listed
pub mod Growing
