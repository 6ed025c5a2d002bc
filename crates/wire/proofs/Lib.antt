-- The lemmas of this crate. Assumes nothing.
pub mod Rows
pub mod PairLaws
pub mod HeadLaws
pub mod FileLaws
pub mod CableLaws
pub mod TableLaws
pub mod Things
pub mod ThingLaws
pub mod CauseLaws
