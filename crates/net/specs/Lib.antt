pub mod Cables
pub mod Grid
pub mod Heads
pub mod Layout
pub mod Net
pub mod Order
pub mod Planned
pub mod Position
