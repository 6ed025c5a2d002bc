pub mod Answer
pub mod Ranks
pub mod Table
pub mod Graph
pub mod Fewest
pub mod Down
pub mod Layers
pub mod Ring
