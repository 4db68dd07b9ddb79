pub mod WordsLaws
pub mod ColumnsLaws
pub mod ExpandingLaws
pub mod CipherLaws
pub mod LoopsLaws
