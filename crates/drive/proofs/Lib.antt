pub mod ActingLaws
pub mod AdmitLaws
pub mod IoLaws
pub mod KeysLaws
pub mod LinesLaws
pub mod RunningLaws
pub mod WrappedLaws
