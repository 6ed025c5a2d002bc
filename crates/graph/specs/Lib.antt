pub mod Sets
pub mod Graph
pub mod Cables
pub mod Tree
pub mod Layers
pub mod Reach
pub mod Refusal
pub mod Laws
