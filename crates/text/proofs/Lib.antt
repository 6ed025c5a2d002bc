pub mod Eachs
pub mod Chains
pub mod Walks
