pub mod Kept
pub mod Cells
pub mod Swept
pub mod Marked
pub mod Laid
pub mod Laws
pub mod Promised
