pub mod Credit
pub mod Ring
pub mod Store
