pub mod NumberLaws
pub mod CompositeLaws
pub mod WritingLaws
pub mod MassLaws
