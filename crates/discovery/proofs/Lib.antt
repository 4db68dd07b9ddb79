pub mod ReadingLaws
pub mod WritingLaws
pub mod WalkingLaws
pub mod VerdictLaws
