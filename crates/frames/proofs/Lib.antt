pub mod FieldsLaws
pub mod KindsLaws
pub mod LineLaws
pub mod MessageLaws
pub mod ReadingLaws
pub mod StayingLaws
