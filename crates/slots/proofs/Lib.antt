pub mod AllocatedLaws
pub mod CacheLaws
pub mod ClearLaws
pub mod HeadLaws
pub mod SearchLaws
